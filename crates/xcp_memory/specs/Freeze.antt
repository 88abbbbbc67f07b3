-- FREEZE modes of segments, and what is stored of the segments that are in it.
-- (ASAM MCD-1 XCP, protocol layer, description of commands: SET_SEGMENT_MODE, GET_SEGMENT_MODE, SET_REQUEST.)
use Rattle.std.specs.Prelude.{ℕ, Bool, not, List, [], ◌∷◌, map, count_by, Option, ◌==◌, bit_and, if◌then◌else◌, slice_set}
use Rattle.xcp_packet.specs.declared.Code.{Code}
use Rattle.xcp_packet.specs.declared.Code.TheVariants.{ModeNotValid, SegmentNotValid}
use Rattle.xcp_memory.specs.PageCopy.{lacks_segment, with_content}
use Rattle.xcp_memory.specs.Pages.{PagesValue, SegmentPages, segment_at, xcp_page}
use Rattle.xcp_memory.specs.ReferencePage.{reference_page}
use Rattle.xcp_packet.specs.Rows.{first_holding}

-- bit 0 of a segment mode: FREEZE
abbrev pub is_freeze : ℕ → Bool
is_freeze mode = bit_and mode 0x01 == 0x01

-- no bit but FREEZE is set
abbrev pub is_segment_mode : ℕ → Bool
is_segment_mode mode = bit_and mode 0x01 == mode

-- Why a segment's mode isn't set, if it isn't.
abbrev pub set_freeze_refusal : ℕ → ℕ → PagesValue → Option Code
set_freeze_refusal mode segment v =
    first_holding (
    (not (is_segment_mode mode), ModeNotValid)
    ∷ (lacks_segment segment v, SegmentNotValid)
    ∷ [])

-- the pages after the setting of a mode that isn't refused
abbrev pub pages_with_mode : ℕ → ℕ → PagesValue → PagesValue
pages_with_mode mode segment v =
    record v { segments = slice_set v.segments segment (record (segment_at v segment) { freeze = is_freeze mode }) }

-- Why a segment's mode isn't told, if it isn't.
abbrev pub freeze_mode_refusal : ℕ → PagesValue → Option Code
freeze_mode_refusal segment v = first_holding ((lacks_segment segment v, SegmentNotValid) ∷ [])

-- the mode byte of a segment
abbrev pub segment_mode : SegmentPages → ℕ
segment_mode s = if s.freeze then 0x01 else 0x00

-- A segment whose working state is kept: in FREEZE mode the reference page, page 0, gets the content of the page
-- that the tool has.
abbrev pub segment_frozen : SegmentPages → SegmentPages
segment_frozen s = if s.freeze then with_content s 0 (xcp_page s) else s

-- the reference page that a store leaves of a segment: in FREEZE mode the content of the page that the tool has, and else its own
abbrev pub stored_page : SegmentPages → List ℕ
stored_page s = if s.freeze then xcp_page s else reference_page s

-- the pages once all segments in FREEZE mode are stored
abbrev pub pages_frozen : PagesValue → PagesValue
pages_frozen v = record v { segments = map segment_frozen v.segments }

-- how many segments are in FREEZE mode
abbrev pub frozen_count : PagesValue → ℕ
frozen_count v = count_by (λ s. s.freeze) v.segments
