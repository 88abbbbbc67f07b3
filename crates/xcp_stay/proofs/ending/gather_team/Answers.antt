use Rattle.std.proofs.Common.{length, ap, arith}
use Rattle.xcp_locked.proofs.PairedListLemmas.{finish, map_behind, map_more, turn}
use Rattle.xcp_stay.proofs.TeamLemmas.{gathered, one_behind}
use Rattle.xcp_stay.proofs.ending.gather_team.Goals as goal

pub loop-tool-preserved : goal.loop-tool-preserved
loop-tool-preserved g c =
    let at = c.loop-tool in
    let was = at.invariant in
    let steps = c.in-Some.ensures.steps in (
      turn at.yielded _ _ _ c.in-Some.field-0 was.0 steps.0,
      omega (arith, ap length steps.0, steps.1, was.1),
      map_more (λ x. x.tool) at.yielded c.in-Some.field-0 at.members.items _ was.2 (c.in_ok-push.ensures {u = tt}).items,
      map_more (λ x. x.pump) at.yielded c.in-Some.field-0 at.pumps.items _ was.3 (c.in_ok-push-2.ensures {u = tt}).items,
    )

pub loop-member-preserved : goal.loop-member-preserved
loop-member-preserved g c =
    let at = c.loop-member in
    let was = at.invariant in
    let steps = c.in-Some-2.ensures.steps in (
      turn at.yielded _ _ _ c.in-Some-2.field-0 was.0 steps.0,
      omega (arith, ap length steps.0, steps.1, was.1),
      map_behind (λ x. x.member) c.loop-tool.members.items at.yielded c.in-Some-2.field-0 at.members.items _ was.2 (c.in_ok-push-3.ensures {u = tt}).items,
    )

pub loop-pump-preserved : goal.loop-pump-preserved
loop-pump-preserved g c =
    let at = c.loop-pump in
    let was = at.invariant in
    let steps = c.in-Some-pump.ensures.steps in (
      turn at.yielded _ _ _ c.in-Some-pump.pump was.0 steps.0,
      omega (arith, ap length steps.0, steps.1, was.1),
      one_behind c.loop-member.members.items at.yielded c.in-Some-pump.pump at.members.items _ was.2 (c.in_ok-push-4.ensures {u = tt}).items,
    )

pub returns : goal.returns
returns g c =
    let one = c.loop-tool in let two = c.loop-member in let three = c.loop-pump in
    gathered (λ l. l.tool) (λ l. l.pump) (λ r. r.member) one.yielded c.args.left.items two.yielded c.args.rested.items one.members.items two.members.items three.members.items one.pumps.items three.yielded
    (finish one.yielded _ _ c.args.left.items _ one.invariant.0 one.invariant.1 c.in-None.ensures.steps.0 c.into_iter-tool-iterator.ensures.into_iter_gives.0)
    (finish two.yielded _ _ c.args.rested.items _ two.invariant.0 two.invariant.1 c.in-None-2.ensures.steps.0 c.into_iter-member-iterator.ensures.into_iter_gives.0)
    (finish three.yielded _ _ one.pumps.items _ three.invariant.0 three.invariant.1 c.in-None-pump.ensures.steps.0 c.into_iter-pump-iterator.ensures.into_iter_gives.0)
    one.invariant.2 one.invariant.3 two.invariant.2 three.invariant.2
