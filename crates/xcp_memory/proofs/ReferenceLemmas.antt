-- Reference pages: that each is there, and what stays of a layout where one is replaced by another of the same size.
use Rattle.std.proofs.Common.{◌≡◌, ℕ, ◌+◌, ◌<◌, ◌≤◌, List, [], ◌∷◌, ◌++◌, length, ap, sym, subst, arith, All, slice_index_or as get_or}
use Rattle.std.proofs.Math.Seq.{map-set_same}
use Rattle.std.proofs.lemmas.List.Elements.{All-get_or, All-set}
use Rattle.std.proofs.lemmas.List.Sums.{sum_by-set}
use Rattle.std.proofs.lemmas.List.{length-set}
use Rattle.xcp_memory.specs.Layout.{LayoutValue, IsLayout, IsApart, Extent, SegmentValue, extents, segment_extent, signals_extent, no_extent}
use Rattle.xcp_memory.specs.Pages.{PagesValue, IsPages, segment_at, no_segment}
use Rattle.xcp_memory.specs.ReferencePage.{with_reference}

-- each segment has a reference page
pub has_reference : (v : PagesValue) (i : ℕ) → IsLayout v.layout → IsPages v → i < length v.layout.segments → 0 < length (segment_at v i).pages
has_reference v i l h k =
    let paged = (All-get_or (λ (s : SegmentValue). (2 ≤ s.pages) × (s.pages ≤ 4)) v.layout.segments i no_segment k l.paged).0 in
    let there : i < length v.segments = omega (arith, k, h.count) in
    omega (arith, paged, (h.each i there).count)

-- the areas are where they were
pub same_extents : (l : LayoutValue) (i : ℕ) (bytes : List ℕ) → length bytes ≡ length (get_or l.segments i no_segment).bytes → extents (with_reference i bytes l) ≡ extents l
same_extents l i bytes e =
    ap (λ (xs : List Extent). xs ++ signals_extent l ∷ [])
    (map-set_same segment_extent l.segments i (record (get_or l.segments i no_segment) { bytes = bytes }) no_segment (ap (λ (n : ℕ). record { address = (get_or l.segments i no_segment).address; size = n }) e))

-- a lawful layout stays one
pub lawful_with : (l : LayoutValue) (i : ℕ) (bytes : List ℕ) → IsLayout l → i < length l.segments → length bytes ≡ length (get_or l.segments i no_segment).bytes → IsLayout (with_reference i bytes l)
lawful_with l i bytes h k e =
    let s : SegmentValue = record (get_or l.segments i no_segment) { bytes = bytes } in
    let at : SegmentValue = get_or l.segments i no_segment in
    let long : length (with_reference i bytes l).segments ≡ length l.segments = length-set l.segments i s in
    let filled = All-get_or (λ (x : SegmentValue). 1 ≤ length x.bytes) l.segments i no_segment k h.filled in
    let paged = All-get_or (λ (x : SegmentValue). (2 ≤ x.pages) × (x.pages ≤ 4)) l.segments i no_segment k h.paged in
    let sum = sum_by-set (λ (x : SegmentValue). length x.bytes) l.segments i s no_segment k in
    let where' = same_extents l i bytes e in
    record {
      cto_least = h.cto_least;
      cto_most = h.cto_most;
      dto_least = h.dto_least;
      dto_most = h.dto_most;
      id_least = h.id_least;
      id_most = h.id_most;
      id_text = h.id_text;
      unit_most = h.unit_most;
      ticks_least = h.ticks_least;
      ticks_most = h.ticks_most;
      segments_least = omega (arith, long, h.segments_least);
      segments_most = omega (arith, long, h.segments_most);
      filled = All-set (λ (x : SegmentValue). 1 ≤ length x.bytes) l.segments i s (omega (arith, e, filled)) h.filled;
      total = omega (arith, sum, e, h.total);
      paged = All-set (λ (x : SegmentValue). (2 ≤ x.pages) × (x.pages ≤ 4)) l.segments i s paged h.paged;
      signals_least = h.signals_least;
      signals_most = h.signals_most;
      events_least = h.events_least;
      events_most = h.events_most;
      extras = h.extras;
      names = h.names;
      name_texts = h.name_texts;
      last = subst (λ (xs : List Extent). All (λ (x : Extent). x.address + x.size ≤ 0xFFFF_FFFF) xs) (sym where') h.last;
      apart = subst (λ (xs : List Extent). (a b : ℕ) → a < b → b < length xs → IsApart (get_or xs a no_extent) (get_or xs b no_extent)) (sym where') h.apart;
    }
