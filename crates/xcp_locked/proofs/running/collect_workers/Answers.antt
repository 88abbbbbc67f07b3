use Rattle.std.proofs.Common.{length, ap, sym, ◌∙◌, arith}
use Rattle.std.specs.Option.{option_or}
use Rattle.xcp_locked.proofs.PairedListLemmas.{turn, map_more}
use Rattle.xcp_locked.proofs.TaskOutcomeLemmas.{first_fault-more, first_stays}
use Rattle.xcp_locked.proofs.running.collect_workers.Goals as goal

pub loop-one-preserved-in-None-fault : goal.loop-one-preserved-in-None-fault
loop-one-preserved-in-None-fault g c =
    let at = c.loop-one in
    let was = at.invariant in
    let steps = c.in-Some.ensures.steps in
    let short = ap length steps.0 in
    let gone = steps.1 in
    let pushed = c.push_reserved.ensures.len in
    let room = c.push_reserved.ensures.capacity in (
      turn at.yielded _ _ _ c.in-Some.one was.0 steps.0,
      omega (arith, short, gone, was.1),
      omega (arith, gone, pushed, room, was.2),
      map_more (λ d. d.worker) at.yielded c.in-Some.one _ _ was.3 c.push_reserved.ensures.items,
      sym (first_fault-more at.yielded c.in-Some.one ∙ ap (λ z. option_or z c.in-Some.one.fault) (sym was.4 ∙ c.in-None-fault.is)),
    )

pub loop-one-preserved : goal.loop-one-preserved
loop-one-preserved g c =
    let at = c.loop-one in
    let was = at.invariant in
    let steps = c.in-Some.ensures.steps in
    let short = ap length steps.0 in
    let gone = steps.1 in
    let pushed = c.push_reserved.ensures.len in
    let room = c.push_reserved.ensures.capacity in (
      turn at.yielded _ _ _ c.in-Some.one was.0 steps.0,
      omega (arith, short, gone, was.1),
      omega (arith, gone, pushed, room, was.2),
      map_more (λ d. d.worker) at.yielded c.in-Some.one _ _ was.3 c.push_reserved.ensures.items,
      sym (first_fault-more at.yielded c.in-Some.one ∙ (ap (λ z. option_or z c.in-Some.one.fault) (sym was.4) ∙ first_stays at.fault c.in-Some.one.fault c.in_default.not-None)),
    )
