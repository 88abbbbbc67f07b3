use Rattle.std.specs.Prelude.{◌≡◌, ◌+◌, get_or, vec_items, vec_len}
use Rattle.std.specs.Vec.Iter.{into_iter_items}
use Rattle.std.proofs.Common.{rules, arith, below_more, ap, ◌∙◌}
use Rattle.together.proofs.threads.start_all.Goals as goal

-- The work that gets a thread stood first among the rest, so it is the one at the next place.
pub loop-work-preserved : goal.loop-work-preserved
loop-work-preserved g c =
    let was = c.loop-work.invariant in let step = c.in-Some.ensures.steps in let stand = vec_len c.loop-work.handles in
    let places = c.push.ensures.by_index in let work = c.in-Some.work in
    let works = into_iter_items c.into_iter-work-iterator.result in
    let next : (w : _) → work ≡ get_or works stand w = λ w. (let h = was.1 0 w in grind rules) in
    let promised : c.in-Some-start_one.handle.promise.0.value ≡ work = search rules in
    let grown : vec_len c.push.new.self ≡ stand + 1 = search rules in (
      search rules,
      (λ k d below. let h = was.1 (k + 1) d in grind rules),
      (λ k w h below. below_more (λ i. (get_or (vec_items c.push.new.self) i h).promise.0.value ≡ get_or works i w) stand
          (λ i low. ap (λ x. x.promise.0.value) (places.0 i h low) ∙ was.2 i w h low) (ap (λ x. x.promise.0.value) (places.1 h (search rules)) ∙ (promised ∙ next w)) k (omega arith)),
      search rules,
    )
