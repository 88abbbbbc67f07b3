-- Functions that compute reads and writes; laws of this crate prove them equal to the relations of Memory.
use Rattle.std.specs.Prelude.{ℕ, ◌+◌, ◌-◌, ◌<◌, ◌≤◌, Bool, true, ◌&&◌, List, ◌++◌, length, take, drop, Option, Some, None, nat_le, ◌==◌, if◌then◌else◌, position, slice_index_or as get_or, slice_set}
use Rattle.xcp_packet.specs.declared.Code.{Code}
use Rattle.xcp_packet.specs.declared.Code.TheVariants.{AccessDenied, WriteProtected}
use Rattle.xcp_memory.specs.Layout.{LayoutValue, Extent, segment_extent, signals_extent}
use Rattle.xcp_memory.specs.Pages.{PagesValue, SegmentPages, segment_at, no_segment, xcp_page, ecu_page}

-- whether n bytes from address a on lie in an area
abbrev pub is_inside : ℕ → ℕ → Extent → Bool
is_inside a n e = nat_le e.address a && nat_le (a + n) (e.address + e.size)

-- the segment in which n bytes from address a on lie
abbrev pub segment_of : LayoutValue → ℕ → ℕ → Option ℕ
segment_of l a n = position (λ s. is_inside a n (segment_extent s)) l.segments

-- whether n bytes from address a on lie in one area
abbrev pub lies_inside_by : Option ℕ → LayoutValue → ℕ → ℕ → Bool
lies_inside_by (Some i) l a n = true
lies_inside_by None l a n = is_inside a n (signals_extent l)

abbrev pub lies_inside : LayoutValue → ℕ → ℕ → Bool
lies_inside l a n = lies_inside_by (segment_of l a n) l a n

-- the place of address a in segment i
abbrev pub place_in : LayoutValue → ℕ → ℕ → ℕ
place_in l i a = a - (get_or l.segments i no_segment).address

-- the n bytes from address a on, on the pages that `page_of` picks
abbrev pub bytes_by : (SegmentPages → List ℕ) → Option ℕ → PagesValue → ℕ → ℕ → List ℕ
bytes_by page_of (Some i) v a n = take n (drop (place_in v.layout i a) (page_of (segment_at v i)))
bytes_by page_of None v a n = take n (drop (a - v.layout.signals_address) v.signals)

-- the n bytes from address a on that the tool has
abbrev pub tool_bytes : PagesValue → ℕ → ℕ → List ℕ
tool_bytes v a n = bytes_by xcp_page (segment_of v.layout a n) v a n

-- the n bytes from address a on that the controller has
abbrev pub controller_bytes : PagesValue → ℕ → ℕ → List ℕ
controller_bytes v a n = bytes_by ecu_page (segment_of v.layout a n) v a n

-- Why a write of n bytes at address a is refused, if it is: the range isn't in one area (24); or it is in the
-- signals or the tool has page 0 there (23).
abbrev pub write_refusal_by : Option ℕ → PagesValue → ℕ → ℕ → Option Code
write_refusal_by (Some i) v a n = if (segment_at v i).xcp == 0 then Some WriteProtected else None
write_refusal_by None v a n = if is_inside a n (signals_extent v.layout) then Some WriteProtected else Some AccessDenied

abbrev pub write_refusal : PagesValue → ℕ → ℕ → Option Code
write_refusal v a n = write_refusal_by (segment_of v.layout a n) v a n

-- a list with other elements from place i on
abbrev pub overwritten : List ℕ → ℕ → List ℕ → List ℕ
overwritten xs i ys = (take i xs ++ ys) ++ drop (i + length ys) xs

-- a segment after a write at a place of the tool's page
abbrev pub segment_written : SegmentPages → ℕ → List ℕ → SegmentPages
segment_written s place bytes = record s { pages = slice_set s.pages s.xcp (overwritten (xcp_page s) place bytes) }

abbrev pub written_by : Option ℕ → PagesValue → ℕ → List ℕ → PagesValue
written_by (Some i) v a bytes = record v { segments = slice_set v.segments i (segment_written (segment_at v i) (place_in v.layout i a) bytes) }
written_by None v a bytes = v

-- the pages after a write of bytes at address a that isn't refused
abbrev pub pages_written : PagesValue → ℕ → List ℕ → PagesValue
pages_written v a bytes = written_by (segment_of v.layout a (length bytes)) v a bytes

-- n bytes from address a on lie in segment i
pub record Located (l : LayoutValue) (a n i : ℕ) : Type 0 where
  pub there : i < length l.segments
  pub from : (get_or l.segments i no_segment).address ≤ a
  pub to : a + n ≤ (get_or l.segments i no_segment).address + length (get_or l.segments i no_segment).bytes
