-- The pages of a new slave.
use Rattle.std.proofs.Common.{◌≡◌, ℕ, ◌+◌, ◌<◌, ◌≤◌, List, [], ◌∷◌, ◌++◌, length, take, replicate, false, map, get_or, ap, sym, ◌∙◌, arith, refl, subst}
use Rattle.std.proofs.lemmas.List.{length-map, get_or-map, length-replicate, map_more, take_all}
use Rattle.std.proofs.lemmas.List.Elements.{All-get_or, All-replicate}
use Rattle.xcp_memory.specs.Layout.{LayoutValue, SegmentValue, IsLayout}
use Rattle.xcp_memory.specs.Pages.{SegmentPages, IsSegment, IsPages, opening_segment, no_segment, no_pages}

is_segment-opening : (s : SegmentValue) → 2 ≤ s.pages → IsSegment s (opening_segment s)
is_segment-opening s h =
    let count = length-replicate s.pages s.bytes in
    record {
      count = count;
      sized = All-replicate (λ (p : List ℕ). length p ≡ length s.bytes) s.pages s.bytes refl;
      ecu = omega (arith, count);
      xcp = omega (arith, count);
    }

-- a lawful layout's opening pages, with as many signal bytes as it says, are pages of it
pub is_pages-opening : (l : LayoutValue) (signals : List ℕ) → IsLayout l → length signals ≡ l.signals_length → IsPages (record { layout = l; segments = map opening_segment l.segments; signals = signals })
is_pages-opening l signals lawful h =
    let count = length-map l.segments opening_segment in
    let IsPaged : SegmentValue → Type 0 = λ s. (2 ≤ s.pages) × (s.pages ≤ 4) in
    record {
      count = count;
      each = λ i k.
          (let segment = get_or l.segments i no_segment in
          let there : i < length l.segments = omega arith in
          subst (λ s. IsSegment segment s) (sym (get_or-map opening_segment l.segments i no_segment no_pages there)) (is_segment-opening segment (All-get_or IsPaged l.segments i no_segment there lawful.paged).0));
      signals = h;
    }

-- one more segment
pub opened_more : (segments : List SegmentValue) (i count : ℕ) (bytes : List ℕ) (so_far : List SegmentPages) (s : SegmentPages) → i < length segments → bytes ≡ (get_or segments i no_segment).bytes → count ≡ (get_or segments i no_segment).pages → so_far ≡ map opening_segment (take i segments) → s ≡ record { pages = replicate count bytes; ecu = 0; xcp = 0; freeze = false } → so_far ++ s ∷ [] ≡ map opening_segment (take (i + 1) segments)
opened_more segments i count bytes so_far s h b n f e =
    let opened : s ≡ opening_segment (get_or segments i no_segment) =
    e
    ∙ ap (λ (bytes : List ℕ). let r : SegmentPages = record { pages = replicate count bytes; ecu = 0; xcp = 0; freeze = false } in r) b
    ∙ ap (λ (count : ℕ). let r : SegmentPages = record { pages = replicate count (get_or segments i no_segment).bytes; ecu = 0; xcp = 0; freeze = false } in r) n in
    ap (λ (xs : List SegmentPages). xs ++ s ∷ []) f
    ∙ ap (λ (s : SegmentPages). map opening_segment (take i segments) ++ s ∷ []) opened
    ∙ sym (map_more opening_segment segments i no_segment h)

-- all of them
pub opened_all : (l : LayoutValue) (i : ℕ) (so_far : List SegmentPages) (signals : List ℕ) → IsLayout l → length l.segments ≤ i → so_far ≡ map opening_segment (take i l.segments) → length signals ≡ l.signals_length → IsPages (record { layout = l; segments = so_far; signals = signals })
opened_all l i so_far signals lawful h f e =
    let whole : take i l.segments ≡ l.segments = take_all i l.segments h in
    subst (λ (xs : List SegmentPages). IsPages (record { layout = l; segments = xs; signals = signals })) (sym (f ∙ ap (λ (xs : List SegmentValue). map opening_segment xs) whole)) (is_pages-opening l signals lawful e)
