use Rattle.std.specs.Prelude.{◌≡◌, ◌+◌, get_or, vec_items, vec_len}
use Rattle.std.specs.Vec.Iter.{into_iter_items}
use Rattle.std.proofs.Common.{rules, suc, arith, below_more, ap, sym, ◌∙◌, subst}
use Rattle.together.specs.private.StandingCrews.{KeepsCrewAt}
use Rattle.together.proofs.crews.join_crews.Goals as goal

-- The crew that is joined stood first among the rest, so it is the one at the next place.
pub loop-handle-preserved : goal.loop-handle-preserved
loop-handle-preserved g c =
    let was = c.loop-handle.invariant in let step = c.in-Some.ensures.steps in let done = vec_len c.loop-handle.results in
    let places = c.push.ensures.by_index in let two = c.in-Some.handle in
    let handles = into_iter_items c.into_iter-handle-iterator.result in let Kept = KeepsCrewAt g.P.Promise g.Q.Promise handles in
    let next : two ≡ get_or handles done two = sym (ap (λ l. get_or l 0 two) step.0) ∙ (was.1 0 two (omega (arith, step.1)) ∙ ap (λ n. get_or handles n two) (omega arith)) in
    let here : Kept done c.join_crew.result = record { two = two; two_is = next; kept = c.join_crew.ensures } in
    let grown : vec_len c.push.new.self ≡ done + 1 = search rules in (
      search rules,
      (λ k d below. ap (λ l. get_or l (suc k) d) (sym step.0) ∙ (was.1 (suc k) d (omega (arith, step.1, below)) ∙ ap (λ n. get_or handles n d) (omega (arith, grown)))),
      (λ k t below. below_more (λ i. Kept i (get_or (vec_items c.push.new.self) i t)) done
          (λ i low. subst (Kept i) (sym (places.0 i t low)) (was.2 i t low)) (subst (Kept done) (sym (places.1 t (search rules))) here) k (omega arith)),
      search rules,
    )

pub returns : goal.returns
returns g c =
    let was = c.loop-handle.invariant in let began = c.into_iter-handle-iterator.ensures.into_iter_gives in
    let whole : vec_len c.loop-handle.results ≡ vec_len c.args.handles = omega (arith, was.0, c.in-None.ensures.steps.0, began.1) in
    record {
      len = whole;
      each = λ i t below. subst (λ hs. KeepsCrewAt g.P.Promise g.Q.Promise hs i (get_or (vec_items c.loop-handle.results) i t)) began.0 (was.2 i t (search rules));
    }
