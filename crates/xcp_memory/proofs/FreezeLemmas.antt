-- Segments that are stored one after another.
use Rattle.std.proofs.Common.{◌≡◌, ℕ, ◌+◌, ◌<◌, ◌≤◌, List, [], ◌∷◌, ◌++◌, length, map, take, drop, get_or, Bool, true, false, Option, Some, None, ap, sym, ◌∙◌, arith, refl}
use Rattle.std.specs.Prelude.{count_by, All, if◌then◌else◌, ◌==◌}
use Rattle.std.proofs.lemmas.List.{length-take-le, drop_more, length-map}
use Rattle.std.proofs.lemmas.List.Sums.{count_by-le-length}
use Rattle.std.proofs.Math.Seq.{get_or-append_seam}
use Rattle.std.proofs.lemmas.List.Elements.{All-from_get_or}
use Rattle.xcp_memory.specs.Freeze.{segment_frozen, pages_frozen}
use Rattle.std.proofs.Math.ListN.{get_or-map}
use Rattle.xcp_packet.specs.declared.Code.TheVariants.{WriteProtected}
use Rattle.xcp_memory.specs.ComputedAccess.{segment_of, write_refusal, write_refusal_by}
use Rattle.xcp_memory.specs.PageCopy.{with_content}
use Rattle.xcp_memory.proofs.PageCopyLemmas.{is_segment-filled}
use Rattle.xcp_memory.proofs.PageSwitchLemmas.{is_pages-map}
use Rattle.xcp_memory.proofs.RangeLemmas.{page_size}
use Rattle.xcp_memory.specs.Layout.{SegmentValue}
use Rattle.xcp_memory.specs.Pages.{PagesValue, SegmentPages, IsSegment, IsPages, segment_at, no_pages, xcp_page}

-- the next element of a list whose first ones are changed is still as it was
pub next_is_old : {X : Type 0} (f : X → X) (xs ys : List X) (i : ℕ) (d : X) → i < length xs → ys ≡ map f (take i xs) ++ drop i xs → get_or ys i d ≡ get_or xs i d
next_is_old {X} f xs ys i d h so_far =
    let before : length (map f (take i xs)) ≡ i = length-map (take i xs) f ∙ length-take-le i xs (omega arith) in
    let split : ys ≡ map f (take i xs) ++ get_or xs i d ∷ drop (i + 1) xs = so_far ∙ ap (λ (zs : List X). map f (take i xs) ++ zs) (drop_more xs i d h) in
    ap (λ (zs : List X). get_or zs i d) split ∙ ap (λ (n : ℕ). get_or (map f (take i xs) ++ get_or xs i d ∷ drop (i + 1) xs) n d) (sym before) ∙ get_or-append_seam (map f (take i xs)) (get_or xs i d) (drop (i + 1) xs) d

-- at most as many pass as there are
pub counted_so_far : {X : Type 0} (p : X → Bool) (xs : List X) (i : ℕ) → i < length xs → count_by p (take i xs) ≤ i
counted_so_far {X} p xs i h = omega (arith, count_by-le-length p (take i xs), length-take-le i xs (omega arith))

-- each segment's tool has a page
pub each_has_page : (v : PagesValue) → IsPages v → All (λ (s : SegmentPages). s.xcp < length s.pages) v.segments
each_has_page v h = All-from_get_or (λ (s : SegmentPages). s.xcp < length s.pages) v.segments no_pages (λ i k. (h.each i k).xcp)

-- the tool's page has the size of the reference page
same_size : (segment : SegmentValue) (s : SegmentPages) → IsSegment segment s → length (xcp_page s) ≡ length (get_or s.pages 0 [])
same_size segment s h = page_size segment s.xcp s h h.xcp ∙ sym (page_size segment 0 s h (omega (arith, h.xcp)))

is_segment-frozen : (segment : SegmentValue) (s : SegmentPages) → IsSegment segment s → IsSegment segment (segment_frozen s)
is_segment-frozen segment s h = by_mode s.freeze
  where
    by_mode : (b : Bool) → IsSegment segment (if b then with_content s 0 (xcp_page s) else s)
    by_mode true = is_segment-filled segment s 0 (xcp_page s) h (omega (arith, h.xcp)) (same_size segment s h)
    by_mode false = h

-- the pages once the segments in FREEZE mode are stored
pub is_pages-frozen : (v : PagesValue) → IsPages v → IsPages (pages_frozen v)
is_pages-frozen v h = is_pages-map v segment_frozen h (λ i segment k is. is_segment-frozen segment (segment_at v i) is)

-- what the tool may write
same_number : (s : SegmentPages) → (segment_frozen s).xcp ≡ s.xcp
same_number s = by_mode s.freeze
  where
    by_mode : (b : Bool) → (if b then with_content s 0 (xcp_page s) else s).xcp ≡ s.xcp
    by_mode true = refl
    by_mode false = refl

same_refusal : (v : PagesValue) (a n : ℕ) (found : Option ℕ) → write_refusal_by found (pages_frozen v) a n ≡ write_refusal_by found v a n
same_refusal v a n None = refl
same_refusal v a n (Some i) =
    ap (λ (x : ℕ). if x == 0 then Some WriteProtected else None) (ap (λ (s : SegmentPages). s.xcp) (get_or-map segment_frozen v.segments i no_pages) ∙ same_number (segment_at v i))

-- storing the segments in FREEZE mode changes no refusal of a write
pub same_writable : (v : PagesValue) (a n : ℕ) → write_refusal (pages_frozen v) a n ≡ write_refusal v a n
same_writable v a n = same_refusal v a n (segment_of v.layout a n)
