-- Reference pages: page 0 of each segment, which nobody writes but a store.
-- (ASAM MCD-1 XCP, protocol layer: calibration data segments and pages.)
use Rattle.std.specs.Prelude.{ℕ, List, [], slice_set, slice_index_or as get_or}
use Rattle.xcp_memory.specs.Layout.{LayoutValue}
use Rattle.xcp_memory.specs.Pages.{SegmentPages, no_segment}

-- the reference page of a segment
abbrev pub reference_page : SegmentPages → List ℕ
reference_page s = get_or s.pages 0 []

-- the layout in which these are the bytes of segment i's reference page
abbrev pub with_reference : ℕ → List ℕ → LayoutValue → LayoutValue
with_reference i bytes l = record l { segments = slice_set l.segments i (record (get_or l.segments i no_segment) { bytes = bytes }) }
