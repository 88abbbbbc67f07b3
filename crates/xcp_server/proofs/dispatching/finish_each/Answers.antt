use Rattle.std.proofs.Common.{◌≡◌, length, ap, ◌∙◌, subst, arith}
use Rattle.xcp_locked.specs.PairedLists.{EachFrom}
use Rattle.xcp_locked.proofs.PairedListLemmas.{turn, finish}
use Rattle.xcp_server.specs.private.Dispatching.{IsPartedAt}
use Rattle.xcp_server.proofs.DispatchingLemmas.{one_longer, parted_more}
use Rattle.xcp_server.proofs.dispatching.finish_each.Goals as goal

pub loop-heard-preserved : goal.loop-heard-preserved
loop-heard-preserved g c =
    let at = c.loop-heard in
    let was = at.invariant in
    let steps = c.in-Some.ensures.steps in
    let short = ap length steps.0 in
    let gone = steps.1 in
    let taken = ap length c.in-Some-next.ensures.items in
    let pushed = c.push_reserved.ensures.len in
    let room = c.push_reserved.ensures.capacity in
    let here : c.into_inner-dispatch.result.place ≡ at.place = omega (arith, c.place.ensures, c.if-place.false) in (
      turn at.yielded _ _ _ (c.in-Some.heard, c.in-Some.pumped) was.0 steps.0,
      omega (arith, short, gone, was.1),
      omega (arith, gone, was.2),
      omega (arith, gone, taken, was.3),
      omega (arith, gone, pushed, room, was.4),
      one_longer at.yielded _ at.place was.5,
      parted_more g.O.Write.contents g.L.LineName.outlet g.L.LineName.before g.L.LineName.failures c.into_inner-dispatch.result.place at.yielded at.finished.items c.push_reserved.new.self.items c.in-Some.heard c.in-Some.pumped c.finish.result was.6 (here ∙ was.5) c.finish.ensures c.push_reserved.ensures.items,
    )

pub returns : goal.returns
returns g c =
    let at = c.loop-heard in
    let was = at.invariant in
    subst (λ xs. EachFrom (IsPartedAt g.O.Write.contents g.L.LineName.outlet g.L.LineName.before g.L.LineName.failures) 0 xs at.finished.items)
    (finish at.yielded _ _ c.args.parted.items _ was.0 was.1 c.in-None.ensures.steps.0 c.into_iter-heard-iterator.ensures.into_iter_gives.0) was.6
