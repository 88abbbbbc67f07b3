use Rattle.std.proofs.Common.{◌∷◌, [], ◌++◌, length, ap, sym, subst, arith}
use Rattle.std.specs.List.{AllZip}
use Rattle.xcp_locked.proofs.PairedListLemmas.{finish, turn, zip_more}
use Rattle.xcp_stay.proofs.running.join_all.Goals as goal

pub loop-handle-preserved : goal.loop-handle-preserved
loop-handle-preserved g c =
    let at = c.loop-handle in
    let was = at.invariant in
    let steps = c.in-Some.ensures.steps in
    let short = ap length steps.0 in
    let gone = steps.1 in
    let pushed = c.push_reserved.ensures.len in
    let room = c.push_reserved.ensures.capacity in (
      turn at.yielded _ _ _ c.in-Some.handle was.0 steps.0,
      omega (arith, short, gone, was.1),
      omega (arith, gone, pushed, room, was.2),
      subst (λ z. AllZip (λ h t. g.P.Promise.kept_by h.promise t) (at.yielded ++ c.in-Some.handle ∷ []) z) (sym c.push_reserved.ensures.items)
          (zip_more (λ h t. g.P.Promise.kept_by h.promise t) at.yielded at.results.items c.in-Some.handle _ was.3 c.join.ensures),
    )

pub returns : goal.returns
returns g c =
    let at = c.loop-handle in
    let was = at.invariant in
    subst (λ xs. AllZip (λ h t. g.P.Promise.kept_by h.promise t) xs at.results.items) (finish at.yielded _ _ c.args.handles.items _ was.0 was.1 c.in-None.ensures.steps.0 c.into_iter-handle-iterator.ensures.into_iter_gives.0) was.3
