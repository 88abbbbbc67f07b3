-- The memory as a set of pairs of address and byte, and what it is to read and to write a range.
use Rattle.std.specs.Prelude.{◌≡◌, ◌≢◌, ℕ, ◌+◌, ◌-◌, ◌<◌, ◌≤◌, ◌⊎◌, ◌↔◌, List, [], length, slice_index, slice_index_or as get_or}
use Rattle.xcp_memory.specs.Layout.{LayoutValue, extents, no_extent}
use Rattle.xcp_memory.specs.Pages.{PagesValue, SegmentPages, segment_at, no_segment, xcp_page, ecu_page}

-- this byte stands at this address, where these bytes stand from the first address on
pub record Stands (first : ℕ) (bytes : List ℕ) (address byte : ℕ) : Type 0 where
  pub from : first ≤ address
  pub below : address < first + length bytes
  pub stands : byte ≡ slice_index bytes (address - first)

-- this byte stands at this address in segment i, on the page that `page_of` picks
pub record InSegment (page_of : SegmentPages → List ℕ) (v : PagesValue) (address byte i : ℕ) : Type 0 where
  pub there : i < length v.layout.segments
  pub stands : Stands (get_or v.layout.segments i no_segment).address (page_of (segment_at v i)) address byte

-- The tool's bytes: the pairs of address and byte given by the XCP page of each segment and by the signals.
abbrev pub Tool : PagesValue → ℕ → ℕ → Type 0
Tool v address byte = ((i : ℕ) × InSegment xcp_page v address byte i) ⊎ Stands v.layout.signals_address v.signals address byte

-- The controller's bytes: the same by the ECU pages.
abbrev pub Controller : PagesValue → ℕ → ℕ → Type 0
Controller v address byte = ((i : ℕ) × InSegment ecu_page v address byte i) ⊎ Stands v.layout.signals_address v.signals address byte

-- the addresses from a to a + n - 1 lie in area i of the layout
pub record LiesIn (l : LayoutValue) (a n i : ℕ) : Type 0 where
  pub there : i < length (extents l)
  pub from : (get_or (extents l) i no_extent).address ≤ a
  pub to : a + n ≤ (get_or (extents l) i no_extent).address + (get_or (extents l) i no_extent).size

-- they lie in one area; sums of addresses don't wrap
abbrev pub LiesInside : LayoutValue → ℕ → ℕ → Type 0
LiesInside l a n = (i : ℕ) × LiesIn l a n i

-- n bytes from address a on lie in area i, which may not be written: it is the signals, or a segment in which the tool
-- has page 0
pub record IsProtected (v : PagesValue) (a n i : ℕ) : Type 0 where
  pub lies : LiesIn v.layout a n i
  pub kept : (i ≡ length v.layout.segments) ⊎ ((segment_at v i).xcp ≡ 0)

-- they lie in one area, which may not be written
abbrev pub LiesProtected : PagesValue → ℕ → ℕ → Type 0
LiesProtected v a n = (i : ℕ) × IsProtected v a n i

-- A read of n bytes from address a on in a set of pairs gives the list whose k-th byte pairs with a + k.
pub record Reads (set : PagesValue → ℕ → ℕ → Type 0) (v : PagesValue) (a n : ℕ) (bytes : List ℕ) : Type 0 where
  pub inside : LiesInside v.layout a n
  pub long : length bytes ≡ n
  pub each : (k : ℕ) → k < n → set v (a + k) (slice_index bytes k)

-- the same page numbers, FREEZE mode, and number and lengths of pages
pub record SameNumbers (s t : SegmentPages) : Type 0 where
  pub ecu : t.ecu ≡ s.ecu
  pub xcp : t.xcp ≡ s.xcp
  pub freeze : t.freeze ≡ s.freeze
  pub count : length t.pages ≡ length s.pages
  pub sizes : (p : ℕ) → length (get_or t.pages p []) ≡ length (get_or s.pages p [])

-- A write of a list from address a on leads to w: in the tool's bytes its k-th byte then pairs with a + k
-- and each other address keeps its byte; each page of each segment that isn't its XCP page keeps its
-- bytes; and nothing else changes.
pub record Writes (v : PagesValue) (a : ℕ) (bytes : List ℕ) (w : PagesValue) : Type 0 where
  pub inside : LiesInside v.layout a (length bytes)
  pub each : (k : ℕ) → k < length bytes → Tool w (a + k) (slice_index bytes k)
  pub others : (b y : ℕ) → (b < a) ⊎ (a + length bytes ≤ b) → Tool v b y ↔ Tool w b y
  pub pages : (i p : ℕ) → p ≢ (segment_at v i).xcp → get_or (segment_at w i).pages p [] ≡ get_or (segment_at v i).pages p []
  pub layout : w.layout ≡ v.layout
  pub signals : w.signals ≡ v.signals
  pub count : length w.segments ≡ length v.segments
  pub numbers : (i : ℕ) → SameNumbers (segment_at v i) (segment_at w i)
