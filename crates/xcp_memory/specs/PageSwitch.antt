-- Which pages SET_CAL_PAGE gives, and which GET_CAL_PAGE tells.
-- (ASAM MCD-1 XCP, protocol layer, description of commands: SET_CAL_PAGE, GET_CAL_PAGE.)
use Rattle.std.specs.Prelude.{ℕ, Bool, not, ◌&&◌, ◌||◌, List, [], ◌∷◌, length, map, Option, nat_le, ◌==◌, bit_and, if◌then◌else◌, slice_set}
use Rattle.std.specs.List.{list_any}
use Rattle.xcp_packet.specs.declared.Code.{Code}
use Rattle.xcp_packet.specs.declared.Code.TheVariants.{ModeNotValid, SegmentNotValid, PageNotValid}
use Rattle.xcp_memory.specs.Pages.{PagesValue, SegmentPages, segment_at}
use Rattle.xcp_packet.specs.Rows.{first_holding}

-- bits 0 and 1 of a mode of SET_CAL_PAGE: the controller (ECU), the tool (XCP) gets the page
abbrev pub gives_ecu : ℕ → Bool
gives_ecu mode = bit_and mode 0x01 == 0x01

abbrev pub gives_xcp : ℕ → Bool
gives_xcp mode = bit_and mode 0x02 == 0x02

-- bit 7: all segments are concerned, whichever the command names
abbrev pub is_of_all : ℕ → Bool
is_of_all mode = bit_and mode 0x80 == 0x80

-- one of bits 0 and 1 is set, and none but these and bit 7
abbrev pub is_switch_mode : ℕ → Bool
is_switch_mode mode = (bit_and mode 0x83 == mode) && (gives_ecu mode || gives_xcp mode)

-- the segments concerned
abbrev pub concerned : ℕ → ℕ → PagesValue → List SegmentPages
concerned mode segment v = if is_of_all mode then v.segments else segment_at v segment ∷ []

-- whether a segment is looked at that there isn't
abbrev pub names_none : ℕ → ℕ → PagesValue → Bool
names_none mode segment v = not (is_of_all mode) && nat_le (length v.segments) segment

-- whether a segment has no page of this number
abbrev pub lacks_page : ℕ → SegmentPages → Bool
lacks_page page s = nat_le (length s.pages) page

-- Why a switch is refused, if it is.
abbrev pub switch_refusal : ℕ → ℕ → ℕ → PagesValue → Option Code
switch_refusal mode segment page v =
    first_holding (
    (not (is_switch_mode mode), ModeNotValid)
    ∷ (names_none mode segment v, SegmentNotValid)
    ∷ (list_any (lacks_page page) (concerned mode segment v), PageNotValid)
    ∷ [])

-- a segment whose page is switched
abbrev pub segment_switched : ℕ → ℕ → SegmentPages → SegmentPages
segment_switched mode page s =
    record s { ecu = if gives_ecu mode then page else s.ecu; xcp = if gives_xcp mode then page else s.xcp }

-- the pages after a switch that isn't refused
abbrev pub pages_switched : ℕ → ℕ → ℕ → PagesValue → PagesValue
pages_switched mode segment page v =
    record v { segments = if is_of_all mode then map (segment_switched mode page) v.segments else slice_set v.segments segment (segment_switched mode page (segment_at v segment)) }

-- Why the number of a page isn't told, if it isn't: mode 1 asks for the controller's page, 2 for the tool's.
abbrev pub page_refusal : ℕ → ℕ → PagesValue → Option Code
page_refusal mode segment v =
    first_holding (
    (not ((mode == 1) || (mode == 2)), ModeNotValid)
    ∷ (nat_le (length v.segments) segment, SegmentNotValid)
    ∷ [])

-- the number that is told
abbrev pub page_number : ℕ → SegmentPages → ℕ
page_number mode s = if mode == 1 then s.ecu else s.xcp
