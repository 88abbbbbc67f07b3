-- The rows of the commands of data acquisition (DAQ).
use Rattle.std.specs.Prelude.{ℕ, ◌%◌, not, List, [], ◌∷◌, Option, Some, None}
use Rattle.xcp_packet.specs.declared.Reply.{Reply}
use Rattle.xcp_packet.specs.declared.Reply.TheVariants as replies
use Rattle.xcp_packet.specs.declared.Code.{Code}
use Rattle.xcp_packet.specs.declared.Code.TheVariants.{CmdUnknown}
use Rattle.xcp_transfer.specs.declared.Mta.TheVariants.{Text}
use Rattle.xcp_transfer.specs.declared.TextId.TheVariants.{Name}
use Rattle.xcp_packet.specs.Rows.{Row, refused}
use Rattle.xcp_daq.specs.declared.Element.{Element}
use Rattle.xcp_daq.specs.declared.ListMode.{ListMode}
use Rattle.xcp_daq.specs.declared.ProcessorInfo.{ProcessorInfo}
use Rattle.xcp_daq.specs.declared.ResolutionInfo.{ResolutionInfo}
use Rattle.xcp_daq.specs.declared.EventInfo.{EventInfo}
use Rattle.xcp_daq.specs.DaqLists.{DaqValue, has_stamp}
use Rattle.xcp_daq.specs.Configuring.{write_daq_multiple_refusal, write_daq_multiple_after}
use Rattle.xcp_daq.specs.DaqInfo.{event_info_refusal, event_info_reply}
use Rattle.xcp_slave.specs.SlaveValue.{SlaveValue, layout_of, noblock}

-- a row that changes the DAQ lists and nothing else
abbrev pub daq_row : Option Code → Reply → DaqValue → SlaveValue → Row SlaveValue
daq_row refusal reply daq v = record {
  refusals = refused refusal;
  reply = Some reply;
  after = record (noblock v) { daq = daq };
}

-- a row that only asks
abbrev pub query_row : Option Code → Reply → SlaveValue → Row SlaveValue
query_row refusal reply v = record { refusals = refused refusal; reply = Some reply; after = noblock v }

-- the reply to READ_DAQ: no bit of it, and all zeros where it is unwritten
-- (ASAM MCD-1 XCP, protocol layer, description of commands: READ_DAQ.)
abbrev pub entry_reply : Option Element → Reply
entry_reply None = replies.DaqEntry 0 0 0
entry_reply (Some e) = replies.DaqEntry e.size 0 e.address

-- (ASAM MCD-1 XCP, protocol layer, description of commands: GET_DAQ_LIST_MODE.)
abbrev pub mode_reply : ListMode → Reply
mode_reply m = replies.DaqListMode m.mode m.event m.prescaler m.priority

-- (ASAM MCD-1 XCP, protocol layer, description of commands: GET_DAQ_PROCESSOR_INFO.)
abbrev pub info_reply : ProcessorInfo → Reply
info_reply i = replies.DaqInfo i.properties i.lists i.events

-- (ASAM MCD-1 XCP, protocol layer, description of commands: GET_DAQ_RESOLUTION_INFO.)
abbrev pub resolution_reply : ResolutionInfo → Reply
resolution_reply i = replies.DaqResolution i.greatest i.mode i.ticks

-- (ASAM MCD-1 XCP, protocol layer, description of commands: GET_DAQ_EVENT_INFO.)
abbrev pub event_reply : EventInfo → Reply
event_reply e = replies.EventInfo e.lists e.name_length e.cycle e.unit e.priority

-- WRITE_DAQ_MULTIPLE is a command of a slave whose layout asks for it; no other knows it.
-- (ASAM MCD-1 XCP, protocol layer, description of commands: WRITE_DAQ_MULTIPLE.)
abbrev pub write_daq_multiple_row : List ℕ → SlaveValue → Row SlaveValue
write_daq_multiple_row bytes v = record {
  refusals = (not (layout_of v).extras.uploads_a2l, replies.Error CmdUnknown) ∷ refused (write_daq_multiple_refusal (layout_of v) bytes v.daq);
  reply = Some replies.Done;
  after = record (noblock v) { daq = write_daq_multiple_after (layout_of v) bytes v.daq };
}

-- GET_DAQ_CLOCK tells the time, its lowest four bytes; a slave whose layout has no clock doesn't know the command.
-- (ASAM MCD-1 XCP, protocol layer, description of commands: GET_DAQ_CLOCK.)
abbrev pub get_daq_clock_row : SlaveValue → Row SlaveValue
get_daq_clock_row v = record {
  refusals = (not (has_stamp (layout_of v).clock.stamp), replies.Error CmdUnknown) ∷ [];
  reply = Some (replies.DaqClock (v.time % 0x1_0000_0000));
  after = noblock v;
}

-- GET_DAQ_EVENT_INFO tells of an event channel, and leaves the MTA at the first byte of its name.
abbrev pub get_daq_event_info_row : ℕ → SlaveValue → Row SlaveValue
get_daq_event_info_row channel v = record {
  refusals = refused (event_info_refusal (layout_of v) channel);
  reply = Some (event_reply (event_info_reply (layout_of v) channel));
  after = record v { transfer = record v.transfer { mta = Text (Name channel) 0; block = None } };
}
