-- The pages of a slave: what stands in each segment, and who sees which page.
use Rattle.std.specs.Prelude.{◌≡◌, ℕ, Bool, false, List, [], length, map, replicate, All, ◌<◌, slice_index_or as get_or}
use Rattle.xcp_memory.specs.Layout.{SegmentValue, LayoutValue}

-- A segment's pages, each a list of bytes: page 0 is the reference page, which nobody writes, the others are
-- working pages. The numbers of the page that the controller has (ECU) and of the page that the tool has
-- (XCP), and whether the segment is in FREEZE mode.
-- (ASAM MCD-1 XCP, protocol layer: calibration data segments and pages; SET_CAL_PAGE, SET_SEGMENT_MODE.)
pub record SegmentPages : Type 0 where
  pub pages : List (List ℕ)
  pub ecu : ℕ
  pub xcp : ℕ
  pub freeze : Bool

-- the layout, the pages of each of its segments in order, and the bytes of the signals area
pub record PagesValue : Type 0 where
  pub layout : LayoutValue
  pub segments : List SegmentPages
  pub signals : List ℕ

-- each page begins equal to the reference page, both sides have page 0, FREEZE is off
abbrev pub opening_segment : SegmentValue → SegmentPages
opening_segment s = record { pages = replicate s.pages s.bytes; ecu = 0; xcp = 0; freeze = false }

-- the pages of a new slave; the signals are zeros
abbrev pub opening_pages : LayoutValue → PagesValue
opening_pages l = record { layout = l; segments = map opening_segment l.segments; signals = replicate l.signals_length 0 }

abbrev pub no_pages : SegmentPages
no_pages = record { pages = []; ecu = 0; xcp = 0; freeze = false }

abbrev pub no_segment : SegmentValue
no_segment = record { address = 0; bytes = []; pages = 0 }

-- the pages of segment i
abbrev pub segment_at : PagesValue → ℕ → SegmentPages
segment_at v i = get_or v.segments i no_pages

-- the page that the tool has
abbrev pub xcp_page : SegmentPages → List ℕ
xcp_page s = get_or s.pages s.xcp []

-- the page that the controller has
abbrev pub ecu_page : SegmentPages → List ℕ
ecu_page s = get_or s.pages s.ecu []

-- the pages of a segment are as many as its layout says, each has its size, and both numbers are those of pages
pub record IsSegment (segment : SegmentValue) (s : SegmentPages) : Type 0 where
  pub count : length s.pages ≡ segment.pages
  pub sized : All (λ p. length p ≡ length segment.bytes) s.pages
  pub ecu : s.ecu < length s.pages
  pub xcp : s.xcp < length s.pages

-- the pages are those of the layout's segments, and the signals are as many bytes as it says
pub record IsPages (v : PagesValue) : Type 0 where
  pub count : length v.segments ≡ length v.layout.segments
  pub each : (i : ℕ) → i < length v.segments → IsSegment (get_or v.layout.segments i no_segment) (segment_at v i)
  pub signals : length v.signals ≡ v.layout.signals_length
