-- Where the bytes of an address range stand.
use Rattle.std.proofs.Common.{◌≡◌, ℕ, ◌+◌, ◌<◌, ◌≤◌, true, [], length, Option, Some, None, get_or, sym, arith, IfSome}
use Rattle.std.proofs.lemmas.List.Elements.{All-get_or}
use Rattle.std.proofs.lemmas.List.Quantifiers.{position-Some}
use Rattle.std.proofs.lemmas.Bool.Decides.{nat_tests}
use Rattle.xcp_memory.specs.Layout.{Extent, SegmentValue, segment_extent}
use Rattle.xcp_memory.specs.Pages.{PagesValue, SegmentPages, IsSegment, IsPages, segment_at, no_segment}
use Rattle.xcp_memory.specs.ComputedAccess.{is_inside, segment_of}
use Rattle.xcp_memory.specs.private.RangeInSegment.{LiesOnPages}

-- a range that passes an area's test begins at the area's first address or behind it
pub inside_from : (a n : ℕ) (e : Extent) → is_inside a n e ≡ true → e.address ≤ a
inside_from a n e h = grind (arith, nat_tests, h)

-- a range that passes an area's test ends at the area's end or before it
pub inside_to : (a n : ℕ) (e : Extent) → is_inside a n e ≡ true → a + n ≤ e.address + e.size
inside_to a n e h = grind (arith, nat_tests, h)

-- the page of a number that there is has the segment's size
pub page_size : (segment : SegmentValue) (number : ℕ) (s : SegmentPages) → IsSegment segment s → number < length s.pages → length (get_or s.pages number []) ≡ length segment.bytes
page_size segment number s h k = All-get_or (λ p. length p ≡ length segment.bytes) s.pages number [] k h.sized

-- a range found in segment i lies on its pages: those of both sides are there and have the segment's size
pub located : (v : PagesValue) (a n i : ℕ) → IsPages v → segment_of v.layout a n ≡ Some i → LiesOnPages v a n i
located v a n i f h =
    let p = position-Some (λ s. is_inside a n (segment_extent s)) v.layout.segments i no_segment h in
    let paged : i < length v.segments = omega (arith, p.0, f.count) in
    let s = f.each i paged in
    record {
      there = p.0;
      paged = paged;
      from = inside_from a n (segment_extent (get_or v.layout.segments i no_segment)) p.1;
      to = inside_to a n (segment_extent (get_or v.layout.segments i no_segment)) p.1;
      ecu = s.ecu;
      xcp = s.xcp;
      ecu_size = page_size _ _ (segment_at v i) s s.ecu;
      xcp_size = page_size _ _ (segment_at v i) s s.xcp;
    }

-- where the search for a range finds a segment, the range lies on that segment's pages
pub locates : (v : PagesValue) (a n : ℕ) (o : Option ℕ) → IsPages v → o ≡ segment_of v.layout a n → IfSome o (λ i. LiesOnPages v a n i)
locates v a n None f h = tt
locates v a n (Some i) f h = located v a n i f (sym h)
