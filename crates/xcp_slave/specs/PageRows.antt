-- The rows of the commands that tell of pages, copy them, and have them stored.
use Rattle.std.specs.Prelude.{ℕ, true, [], ◌∷◌, Some, not, ◌&&◌, ◌==◌, nat_lt, length, if◌then◌else◌, slice_index_or as get_or}
use Rattle.xcp_packet.specs.declared.Reply.TheVariants as replies
use Rattle.xcp_packet.specs.declared.Code.TheVariants.{OutOfRange, SegmentNotValid}
use Rattle.xcp_memory.specs.Layout.{LayoutValue}
use Rattle.xcp_memory.specs.Pages.{segment_at, no_segment}
use Rattle.xcp_memory.specs.PageSwitch.{switch_refusal, pages_switched, page_refusal, page_number}
use Rattle.xcp_memory.specs.PageCopy.{lacks_segment, page_refusal_of, copy_refusal, pages_copied}
use Rattle.xcp_memory.specs.Freeze.{set_freeze_refusal, pages_with_mode, freeze_mode_refusal, segment_mode}
use Rattle.xcp_packet.specs.Rows.{Row, refused}
use Rattle.xcp_slave.specs.SlaveValue.{SlaveValue, layout_of, noblock, with_pages}

-- SET_CAL_PAGE gives a page to the controller, to the tool, or to both, in one segment or in all.
-- (ASAM MCD-1 XCP, protocol layer, description of commands: SET_CAL_PAGE.)
abbrev pub set_cal_page_row : ℕ → ℕ → ℕ → SlaveValue → Row SlaveValue
set_cal_page_row mode segment page v = record {
  refusals = refused (switch_refusal mode segment page v.transfer.pages);
  reply = Some replies.Done;
  after = with_pages v (pages_switched mode segment page v.transfer.pages);
}

-- GET_CAL_PAGE tells the number of the page that the controller or the tool has.
-- (ASAM MCD-1 XCP, protocol layer, description of commands: GET_CAL_PAGE.)
abbrev pub get_cal_page_row : ℕ → ℕ → SlaveValue → Row SlaveValue
get_cal_page_row mode segment v = record {
  refusals = refused (page_refusal mode segment v.transfer.pages);
  reply = Some (replies.CalPage (page_number mode (segment_at v.transfer.pages segment)));
  after = noblock v;
}

-- GET_PAG_PROCESSOR_INFO tells how many segments there are.
-- (ASAM MCD-1 XCP, protocol layer, description of commands: GET_PAG_PROCESSOR_INFO.)
abbrev pub get_pag_processor_info_row : SlaveValue → Row SlaveValue
get_pag_processor_info_row v = record {
  refusals = [];
  reply = Some (replies.PagInfo (length (layout_of v).segments));
  after = noblock v;
}

-- where a segment begins (info 0), or how many bytes it has (info 1)
abbrev pub basic_info : LayoutValue → ℕ → ℕ → ℕ
basic_info l segment info = if info == 0 then (get_or l.segments segment no_segment).address else length (get_or l.segments segment no_segment).bytes

-- GET_SEGMENT_INFO of mode 0 tells of a segment's address or length, of mode 1 how many pages it has; the number of the mapping
-- isn't looked at.
-- (ASAM MCD-1 XCP, protocol layer, description of commands: GET_SEGMENT_INFO.)
abbrev pub get_segment_info_row : ℕ → ℕ → ℕ → SlaveValue → Row SlaveValue
get_segment_info_row mode segment info v = record {
  refusals = (nat_lt 1 mode, replies.Error OutOfRange)
      ∷ (lacks_segment segment v.transfer.pages, replies.Error SegmentNotValid)
      ∷ ((mode == 0) && nat_lt 1 info, replies.Error OutOfRange)
      ∷ [];
  reply = Some (if mode == 0 then replies.SegmentWord (basic_info (layout_of v) segment info) else replies.SegmentStandard (length (segment_at v.transfer.pages segment).pages));
  after = noblock v;
}

-- The properties of a page: everybody reads each page, and the tool writes all but page 0.
abbrev pub page_properties : ℕ → ℕ
page_properties page = if page == 0 then 0x0F else 0x3F

-- GET_PAGE_INFO tells the properties of a page; the segment from which it is initialised is its own.
-- (ASAM MCD-1 XCP, protocol layer, description of commands: GET_PAGE_INFO.)
abbrev pub get_page_info_row : ℕ → ℕ → SlaveValue → Row SlaveValue
get_page_info_row segment page v = record {
  refusals = refused (page_refusal_of segment page v.transfer.pages);
  reply = Some (replies.PageInfo (page_properties page) segment);
  after = noblock v;
}

-- SET_SEGMENT_MODE sets or clears FREEZE mode of a segment.
-- (ASAM MCD-1 XCP, protocol layer, description of commands: SET_SEGMENT_MODE.)
abbrev pub set_segment_mode_row : ℕ → ℕ → SlaveValue → Row SlaveValue
set_segment_mode_row mode segment v = record {
  refusals = refused (set_freeze_refusal mode segment v.transfer.pages);
  reply = Some replies.Done;
  after = with_pages v (pages_with_mode mode segment v.transfer.pages);
}

-- GET_SEGMENT_MODE tells the mode of a segment.
-- (ASAM MCD-1 XCP, protocol layer, description of commands: GET_SEGMENT_MODE.)
abbrev pub get_segment_mode_row : ℕ → SlaveValue → Row SlaveValue
get_segment_mode_row segment v = record {
  refusals = refused (freeze_mode_refusal segment v.transfer.pages);
  reply = Some (replies.SegmentMode (segment_mode (segment_at v.transfer.pages segment)));
  after = noblock v;
}

-- COPY_CAL_PAGE replaces the content of the target page by that of the source.
-- (ASAM MCD-1 XCP, protocol layer, description of commands: COPY_CAL_PAGE.)
abbrev pub copy_cal_page_row : ℕ → ℕ → ℕ → ℕ → SlaveValue → Row SlaveValue
copy_cal_page_row source source_page target target_page v = record {
  refusals = refused (copy_refusal source source_page target target_page v.transfer.pages);
  reply = Some replies.Done;
  after = with_pages v (pages_copied source source_page target target_page v.transfer.pages);
}

-- SET_REQUEST of mode 1 requests a store of the segments in FREEZE mode, also where one is requested already.
-- (ASAM MCD-1 XCP, protocol layer, description of commands: SET_REQUEST.)
abbrev pub set_request_row : ℕ → SlaveValue → Row SlaveValue
set_request_row mode v = record {
  refusals = (not (mode == 0x01), replies.Error OutOfRange) ∷ [];
  reply = Some replies.Done;
  after = record (noblock v) { store = true };
}
