use Rattle.std.specs.Prelude.{◌≡◌, ◌+◌, get_or, vec_items, vec_len}
use Rattle.std.specs.Vec.Iter.{into_iter_items}
use Rattle.std.proofs.Common.{rules, arith, below_more, sym, subst}
use Rattle.together.specs.private.StandingCrews.{CrewStands}
use Rattle.together.proofs.crews.start_crews.Goals as goal

-- The crew that gets its threads stood first among the rest, so it is the one at the next place.
pub loop-crew-preserved : goal.loop-crew-preserved
loop-crew-preserved g c =
    let was = c.loop-crew.invariant in let step = c.in-Some.ensures.steps in let stand = vec_len c.loop-crew.handles in
    let places = c.push.ensures.by_index in let crew = c.in-Some.crew in
    let crews = into_iter_items c.into_iter-crew-iterator.result in
    let next : (w : _) → crew ≡ get_or crews stand w = λ w. (let h = was.1 0 w in grind rules) in
    let grown : vec_len c.push.new.self ≡ stand + 1 = search rules in (
      search rules,
      (λ k d below. let h = was.1 (k + 1) d in grind rules),
      (λ k w h below. below_more (λ i. CrewStands (get_or crews i w) (get_or (vec_items c.push.new.self) i h)) stand
          (λ i low. subst (CrewStands (get_or crews i w)) (sym (places.0 i h low)) (was.2 i w h low))
          (subst (CrewStands (get_or crews stand w)) (sym (places.1 h (search rules))) (subst (λ x. CrewStands x c.in-Some-start_crew.two) (next w) c.in-Some-start_crew.ensures)) k (omega arith)),
      search rules,
    )

pub returns-clause-all : goal.returns-clause-all
returns-clause-all g c went =
    let was = c.loop-crew.invariant in let began = c.into_iter-crew-iterator.ensures.into_iter_gives in
    let whole : vec_len c.loop-crew.handles ≡ vec_len c.args.crews = omega (arith, was.0, c.in-None.ensures.steps.0, began.1) in
    record {
      all = search rules;
      each = λ i w h low. subst (λ ws. CrewStands (get_or ws i w) (get_or (vec_items c.loop-crew.handles) i h)) began.0 (was.2 i w h (omega arith));
    }
