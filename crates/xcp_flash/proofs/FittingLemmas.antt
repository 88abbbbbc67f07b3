-- Pages of the sizes of a layout's segments.
use Rattle.std.proofs.Common.{◌≡◌, ◌<◌, ℕ, List, [], length, map, sym, subst, ◌∙◌, slice_index_or as get_or}
use Rattle.std.proofs.lemmas.List.{length-map}
use Rattle.std.proofs.lemmas.Grind.{same_number_lists}
use Rattle.std.proofs.Math.ListN.{get_or-map}
use Rattle.xcp_memory.specs.Layout.{LayoutValue, SegmentValue}
use Rattle.xcp_memory.specs.Pages.{no_segment}
use Rattle.xcp_flash.specs.References.{AreReferences}

-- as many, each of its segment's size
pub all_fit : (pages : List (List ℕ)) (l : LayoutValue) → length pages ≡ length l.segments → ((k : ℕ) → k < length pages → length (get_or pages k []) ≡ length (get_or l.segments k no_segment).bytes) → AreReferences pages l
all_fit pages l count each =
    let sizes : List ℕ = map (λ (page : List ℕ). length page) pages in
    let wanted : List ℕ = map (λ (s : SegmentValue). length s.bytes) l.segments in
    same_number_lists sizes wanted (length-map pages (λ (page : List ℕ). length page) ∙ count ∙ sym (length-map l.segments (λ (s : SegmentValue). length s.bytes)))
    (λ k below. get_or-map (λ (page : List ℕ). length page) pages k [] ∙ each k (subst (λ (n : ℕ). k < n) (length-map pages (λ (page : List ℕ). length page)) below) ∙ sym (get_or-map (λ (s : SegmentValue). length s.bytes) l.segments k no_segment))
