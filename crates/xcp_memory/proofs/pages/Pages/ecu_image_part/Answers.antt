use Rattle.std.proofs.Common.{◌≡◌, ◌≢◌, ◌≤◌, ◌+◌, ◌-◌, ◌++◌, ℕ, Bool, List, length, take, drop, replicate, refl, sym, ap, ◌∙◌, subst, arith}
use Rattle.std.specs.Prelude.{MatchBool, min}
use Rattle.std.specs.List.{flat_map}
use Rattle.std.proofs.lemmas.List.{take_all, length-drop, length-take, length-append, length-replicate}
use borrow.Rule.Slice.PartMut.{put_mid}
use Rattle.xcp_memory.specs.EcuImage.{ecu_pages, image_part, image_size}
use Rattle.xcp_memory.specs.Pages.{PagesValue, SegmentPages, ecu_page}
use Rattle.xcp_memory.proofs.EcuImageLemmas.{pages_more}
use Rattle.xcp_memory.proofs.ImagePartLemmas.{IsLaid, laid-first, laid-next, laid-last, differs-more, rest_put}
use Rattle.xcp_memory.proofs.pages.Pages.ecu_image_part.Goals as goal
use Rattle.xcp_memory.proofs.pages.Pages.ecu_image_part.Goals.{then-other, else-other}

pub loop-segment-init : goal.loop-segment-init
loop-segment-init c = record { laid = laid-first c.args.at _ c.args.out.now refl; differs = refl }

pub slice_bounds-lay-count-in-loop-segment : goal.slice_bounds-lay-count-in-loop-segment
slice_bounds-lay-count-in-loop-segment c = omega (arith, c.loop-segment.invariant.laid.done_is, c.loop-segment.invariant.laid.long)

pub slice_bounds-lay-start-in-loop-segment : goal.slice_bounds-lay-start-in-loop-segment
slice_bounds-lay-start-in-loop-segment c = omega (arith, c.loop-segment.invariant.laid.done_is, c.loop-segment.invariant.laid.long)

-- the rest of the part before a page is laid, and the rest of the page
rest_is : (i : ℕ) (xs : List ℕ) → take (length xs - i) (drop i xs) ≡ drop i xs
rest_is i xs = take_all (length xs - i) (drop i xs) (omega (arith, length-drop i xs))

pub loop-segment-preserved : goal.loop-segment-preserved
loop-segment-preserved c =
    let i = c.loop-segment.done in
    let out = c.loop-segment.out in
    let page = c.page-page.result.now in
    let skipped = c.min-skipped.result in
    let k = c.lay-laid.result.0 in
    let new = c.lay-laid.new.out in
    let laid = c.loop-segment.invariant.laid in
    let few : i ≤ length out = omega (arith, laid.done_is, laid.long) in
    let rest = rest_is i out in
    let left = rest_is skipped page in
    let count : k ≡ min (length (drop skipped page)) (length (drop i out)) = rw (left, rest) at c.lay-laid.ensures.count in
    let piece : new ≡ take k (drop skipped page) ++ drop k (drop i out) = rw (left, rest) at c.lay-laid.ensures.laid in
    let long : length new ≡ length out - i = omega (arith, ap length piece, length-append (take k (drop skipped page)) (drop k (drop i out)), length-take k (drop skipped page), length-drop k (drop i out), length-drop i out, count) in
    let whole : put_mid i (length out - i) out new ≡ take i out ++ new = rest_put i out new few long in
    let more = differs-more c.args.out.now out (put_mid i (length out - i) out new) new i c.loop-segment.differs c.loop-segment.invariant.differs few laid.rest whole in
    record {
      laid = subst (λ front. IsLaid c.args.at (length c.args.out.now) front (c.loop-segment.before - skipped) (i + k) c.args.out.now (put_mid i (length out - i) out new))
          (sym (pages_more c.deref-segment-items.result.now c.loop-segment.segment-index c.segment-item.result c.loop-segment-test.true c.segment-item.is ∙ ap (λ p. flat_map ecu_page (take c.loop-segment.segment-index c.deref-segment-items.result.now) ++ p) (sym c.page-page.ensures)))
          (laid-next c.args.at (length c.args.out.now) _ page c.loop-segment.before i skipped k c.args.out.now out (put_mid i (length out - i) out new) new laid c.min-skipped.ensures count piece whole);
      differs = elim c.if-other.branch [
        | then-other w ↦ rw w.differs-is (more.0 (rw (rest, w.if-other.true) at c.lay-laid.ensures.differs))
        | else-other w ↦ rw w.differs-is (more.1 (rw (rest, w.if-other.false) at c.lay-laid.ensures.differs))
      ];
    }

pub slice_bounds-clear-count : goal.slice_bounds-clear-count
slice_bounds-clear-count c = omega (arith, c.loop-segment.invariant.laid.done_is, c.loop-segment.invariant.laid.long)

pub slice_bounds-clear-start : goal.slice_bounds-clear-start
slice_bounds-clear-start c = omega (arith, c.loop-segment.invariant.laid.done_is, c.loop-segment.invariant.laid.long)

-- what is left are the zeros behind the pages
zeros_laid : (v : PagesValue) (items : List SegmentPages) (at i before done : ℕ) (old out new : List ℕ) → items ≡ v.segments → at + length old ≤ image_size v.layout → length items ≤ i → IsLaid at (length old) (flat_map ecu_page (take i items)) before done old out → new ≡ replicate (length (take (length out - done) (drop done out))) 0 → put_mid done (length out - done) out new ≡ image_part at (length old) v
zeros_laid v items at i before done old out new same room all laid zeros =
    let few : done ≤ length out = omega (arith, laid.done_is, laid.long) in
    let count : length (take (length out - done) (drop done out)) ≡ length (drop done out) = ap length (rest_is done out) in
    let is : new ≡ replicate (length (drop done out)) 0 = zeros ∙ ap (λ n. replicate n 0) count in
    let long : length new ≡ length out - done = ap length is ∙ length-replicate (length (drop done out)) 0 ∙ length-drop done out in
    let pages : flat_map ecu_page (take i items) ≡ ecu_pages v = ap (flat_map ecu_page) (take_all i items all ∙ same) in
    let laid_all : IsLaid at (length old) (ecu_pages v) before done old out = subst (λ front. IsLaid at (length old) front before done old out) pages laid in
    laid-last at (length old) (image_size v.layout - length (ecu_pages v)) (ecu_pages v) before done old out (put_mid done (length out - done) out new) new laid_all (omega (arith, room)) is (rest_put done out new few long)

-- whether bytes of the rest are other ones than before
rest_differs : (at i before done : ℕ) (items : List SegmentPages) (old out new : List ℕ) (differs : Bool) → IsLaid at (length old) (flat_map ecu_page (take i items)) before done old out → MatchBool differs (out ≢ old) (out ≡ old) → length new ≡ length (take (length out - done) (drop done out)) → (new ≢ take (length out - done) (drop done out) → put_mid done (length out - done) out new ≢ old) × (new ≡ take (length out - done) (drop done out) → MatchBool differs (put_mid done (length out - done) out new ≢ old) (put_mid done (length out - done) out new ≡ old))
rest_differs at i before done items old out new differs laid d long =
    let few : done ≤ length out = omega (arith, laid.done_is, laid.long) in
    let rest = rest_is done out in
    let size : length new ≡ length out - done = long ∙ ap length rest ∙ length-drop done out in
    let more = differs-more old out (put_mid done (length out - done) out new) new done differs d few laid.rest (rest_put done out new few size) in
    (λ other. more.0 (λ e. other (e ∙ sym rest)), λ same. more.1 (same ∙ rest))

pub returns-then-clear-clause-bytes : goal.returns-then-clear-clause-bytes
returns-then-clear-clause-bytes c =
    zeros_laid c.args.self.now c.deref-segment-items.result.now c.args.at c.loop-segment.segment-index c.loop-segment.before c.loop-segment.done c.args.out.now c.loop-segment.out c.clear.new.bytes (c.deref-segment-items.ensures.value ∙ ap (λ (v : PagesValue). v.segments) c.self.view_is) c.requires c.loop-segment-test.false c.loop-segment.invariant.laid c.clear.ensures.zeros

pub returns-then-clear-clause-differs : goal.returns-then-clear-clause-differs
returns-then-clear-clause-differs c =
    let long = ap length c.clear.ensures.zeros ∙ length-replicate _ 0 in
    (rest_differs c.args.at c.loop-segment.segment-index c.loop-segment.before c.loop-segment.done c.deref-segment-items.result.now c.args.out.now c.loop-segment.out c.clear.new.bytes c.loop-segment.differs c.loop-segment.invariant.laid c.loop-segment.invariant.differs long).0 c.if-clear.ensures.differs

pub returns-else-clear-clause-bytes : goal.returns-else-clear-clause-bytes
returns-else-clear-clause-bytes c =
    zeros_laid c.args.self.now c.deref-segment-items.result.now c.args.at c.loop-segment.segment-index c.loop-segment.before c.loop-segment.done c.args.out.now c.loop-segment.out c.clear.new.bytes (c.deref-segment-items.ensures.value ∙ ap (λ (v : PagesValue). v.segments) c.self.view_is) c.requires c.loop-segment-test.false c.loop-segment.invariant.laid c.clear.ensures.zeros

pub returns-else-clear-clause-differs : goal.returns-else-clear-clause-differs
returns-else-clear-clause-differs c =
    let long = ap length c.clear.ensures.zeros ∙ length-replicate _ 0 in
    (rest_differs c.args.at c.loop-segment.segment-index c.loop-segment.before c.loop-segment.done c.deref-segment-items.result.now c.args.out.now c.loop-segment.out c.clear.new.bytes c.loop-segment.differs c.loop-segment.invariant.laid c.loop-segment.invariant.differs long).1 c.if-clear.ensures.differs
