-- The row of each command: why it is refused, and else its reply and its effect.
use Rattle.std.specs.Prelude.{ℕ, ◌+◌, true, List, [], ◌∷◌, length, Option, Some, None, not, ◌==◌, if◌then◌else◌}
use Rattle.xcp_packet.specs.ByteOrder.{byte_order, byte_at}
use Rattle.xcp_packet.specs.declared.Order.{Order}
use Rattle.xcp_packet.specs.declared.Command.{Command}
use Rattle.xcp_packet.specs.declared.Command.TheVariants as commands
use Rattle.xcp_packet.specs.declared.Reply.TheVariants as replies
use Rattle.xcp_packet.specs.declared.Code.{Code}
use Rattle.xcp_packet.specs.declared.Code.TheVariants.{CmdSynch, CmdUnknown, CmdSyntax, OutOfRange}
use Rattle.xcp_transfer.specs.declared.Mta.TheVariants.{Nowhere, Memory}
use Rattle.xcp_transfer.specs.TransferValue.{TransferValue}
use Rattle.xcp_packet.specs.Rows.{Row, row_within, refused, first_holding}
use Rattle.xcp_transfer.specs.Uploads.{upload_row, short_upload_row, build_checksum_row, get_id_row}
use Rattle.xcp_transfer.specs.Downloads.{download_row, download_next_row, download_max_row, short_download_row, modify_bits_row}
use Rattle.xcp_daq.specs.DaqLists.{any_running, first_pid}
use Rattle.xcp_daq.specs.Allocating.{free_daq_after, alloc_daq_refusal, alloc_daq_after, alloc_odt_refusal, alloc_odt_after, alloc_odt_entry_refusal, alloc_odt_entry_after}
use Rattle.xcp_daq.specs.Configuring.{clear_daq_list_refusal, clear_daq_list_after, set_daq_ptr_refusal, set_daq_ptr_after, write_daq_refusal, write_daq_after, read_daq_refusal, read_daq_reply, read_daq_after, set_daq_list_mode_refusal, set_daq_list_mode_after}
use Rattle.xcp_daq.specs.Starting.{start_stop_daq_list_refusal, start_stop_daq_list_after, start_stop_synch_refusal, start_stop_synch_after}
use Rattle.xcp_daq.specs.DaqInfo.{daq_list_mode_refusal, daq_list_mode_reply, processor_info_reply, resolution_info_reply}
use Rattle.xcp_slave.specs.SlaveValue.{SlaveValue, layout_of, noblock, ended}
use Rattle.xcp_slave.specs.PageRows.{set_cal_page_row, get_cal_page_row, get_pag_processor_info_row, get_segment_info_row, get_page_info_row, set_segment_mode_row, get_segment_mode_row, copy_cal_page_row, set_request_row}
use Rattle.xcp_slave.specs.DaqRows.{daq_row, query_row, entry_reply, mode_reply, info_reply, resolution_reply, write_daq_multiple_row, get_daq_clock_row, get_daq_event_info_row}

-- a row of transfers as one of the slave: nothing but what transfers go by changes
abbrev pub of_transfer : SlaveValue → Row TransferValue → Row SlaveValue
of_transfer v r = row_within (λ t. record v { transfer = t }) r

-- The session status: bit 0, a store is requested; bit 6, a DAQ list runs.
-- (ASAM MCD-1 XCP, protocol layer, description of commands: GET_STATUS.)
abbrev pub status_of : SlaveValue → ℕ
status_of v = (if v.store then 0x01 else 0) + (if any_running v.daq then 0x40 else 0)

-- COMM_MODE_BASIC: bit 7, optional information can be had; bit 6, slave block mode; bit 0, the byte order. The address
-- granularity is one byte.
-- (ASAM MCD-1 XCP, protocol layer, description of commands: CONNECT.)
abbrev pub comm_mode_basic : Order → ℕ
comm_mode_basic order = 0xC0 + byte_order order

-- when the bytes of GET_VERSION are refused: they begin with the level 1 command code, which is 0
-- (ASAM MCD-1 XCP, protocol layer, description of commands: GET_VERSION.)
abbrev pub level_refusal : List ℕ → Option Code
level_refusal bytes = first_holding ((length bytes == 0, CmdSyntax) ∷ (not (byte_at 0 bytes == 0), CmdUnknown) ∷ [])

-- The row of a command for a slave v. (ASAM MCD-1 XCP, protocol layer, description of commands; which error comes when, and
-- in which order, is this slave's choice.)
abbrev pub row : Command → SlaveValue → Row SlaveValue
-- CONNECT: the mode isn't looked at.
row (commands.Connect mode) v = record {
  refusals = [];
  reply = Some (replies.Connect (comm_mode_basic (layout_of v).order) (layout_of v).max_cto (layout_of v).max_dto);
  after = record v { connected = true; transfer = record v.transfer { mta = Nowhere; block = None } };
}
-- DISCONNECT ends the session.
row commands.Disconnect v = record { refusals = []; reply = Some replies.Done; after = ended v }
-- GET_STATUS
row commands.GetStatus v = record { refusals = []; reply = Some (replies.Status (status_of v)); after = v }
-- SYNCH is answered with its own error packet.
row commands.Synch v = record { refusals = []; reply = Some (replies.Error CmdSynch); after = v }
-- GET_COMM_MODE_INFO
row commands.GetCommModeInfo v = record { refusals = []; reply = Some replies.CommMode; after = v }
-- GET_ID
row (commands.GetId kind) v = of_transfer v (get_id_row kind v.transfer)
-- GET_VERSION is a command of a slave whose layout asks for it; no other knows it.
row (commands.GetVersion bytes) v = record {
  refusals = (not (layout_of v).extras.uploads_a2l, replies.Error CmdUnknown) ∷ refused (level_refusal bytes.items);
  reply = Some replies.Version;
  after = noblock v;
}
-- SET_MTA takes any address of extension 0.
row (commands.SetMta extension address) v = record {
  refusals = (not (extension == 0), replies.Error OutOfRange) ∷ [];
  reply = Some replies.Done;
  after = record v { transfer = record v.transfer { mta = Memory address } };
}
-- The transfers.
row (commands.Upload n) v = of_transfer v (upload_row n v.transfer)
row (commands.ShortUpload n extension address) v = of_transfer v (short_upload_row n extension address v.transfer)
row (commands.BuildChecksum size) v = of_transfer v (build_checksum_row size v.transfer)
row (commands.Download n bytes) v = of_transfer v (download_row n bytes.items v.transfer)
row (commands.DownloadNext remaining bytes) v = of_transfer v (download_next_row remaining bytes.items v.transfer)
row (commands.DownloadMax bytes) v = of_transfer v (download_max_row bytes.items v.transfer)
row (commands.ShortDownload n extension address bytes) v = of_transfer v (short_download_row n extension address bytes.items v.transfer)
row (commands.ModifyBits s ma mx) v = of_transfer v (modify_bits_row s ma mx v.transfer)
-- The pages.
row (commands.SetCalPage mode segment page) v = set_cal_page_row mode segment page v
row (commands.GetCalPage mode segment) v = get_cal_page_row mode segment v
row commands.GetPagProcessorInfo v = get_pag_processor_info_row v
row (commands.GetSegmentInfo mode segment info mapping) v = get_segment_info_row mode segment info v
row (commands.GetPageInfo segment page) v = get_page_info_row segment page v
row (commands.SetSegmentMode mode segment) v = set_segment_mode_row mode segment v
row (commands.GetSegmentMode segment) v = get_segment_mode_row segment v
row (commands.CopyCalPage source source_page target target_page) v = copy_cal_page_row source source_page target target_page v
row (commands.SetRequest mode id) v = set_request_row mode v
-- The DAQ lists.
row (commands.ClearDaqList list) v = daq_row (clear_daq_list_refusal list v.daq) replies.Done (clear_daq_list_after list v.daq) v
row (commands.SetDaqPtr list odt entry) v = daq_row (set_daq_ptr_refusal list odt entry v.daq) replies.Done (set_daq_ptr_after list odt entry v.daq) v
row (commands.WriteDaq offset size extension address) v = daq_row (write_daq_refusal (layout_of v) offset size extension address v.daq) replies.Done (write_daq_after size address v.daq) v
row (commands.WriteDaqMultiple bytes) v = write_daq_multiple_row bytes.items v
row (commands.SetDaqListMode mode list event prescaler priority) v = daq_row (set_daq_list_mode_refusal (layout_of v) mode list event prescaler v.daq) replies.Done (set_daq_list_mode_after (layout_of v) mode list event prescaler priority v.daq) v
row (commands.GetDaqListMode list) v = query_row (daq_list_mode_refusal list v.daq) (mode_reply (daq_list_mode_reply list v.daq)) v
row (commands.StartStopDaqList mode list) v = daq_row (start_stop_daq_list_refusal (layout_of v) mode list v.daq) (replies.FirstPid (first_pid list v.daq)) (start_stop_daq_list_after mode list v.daq) v
row (commands.StartStopSynch mode) v = daq_row (start_stop_synch_refusal (layout_of v) mode v.daq) replies.Done (start_stop_synch_after mode v.daq) v
row commands.GetDaqClock v = get_daq_clock_row v
row commands.ReadDaq v = daq_row (read_daq_refusal v.daq) (entry_reply (read_daq_reply v.daq)) (read_daq_after v.daq) v
row commands.GetDaqProcessorInfo v = query_row None (info_reply (processor_info_reply (layout_of v) v.daq)) v
row commands.GetDaqResolutionInfo v = query_row None (resolution_reply (resolution_info_reply (layout_of v))) v
row (commands.GetDaqEventInfo channel) v = get_daq_event_info_row channel v
row commands.FreeDaq v = daq_row None replies.Done (free_daq_after v.daq) v
row (commands.AllocDaq count) v = daq_row (alloc_daq_refusal count v.daq) replies.Done (alloc_daq_after count v.daq) v
row (commands.AllocOdt list count) v = daq_row (alloc_odt_refusal list count v.daq) replies.Done (alloc_odt_after list count v.daq) v
row (commands.AllocOdtEntry list odt count) v = daq_row (alloc_odt_entry_refusal list odt count v.daq) replies.Done (alloc_odt_entry_after list odt count v.daq) v
