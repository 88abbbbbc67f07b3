use Rattle.std.proofs.Common.{length, ap, ◌∙◌, arith}
use Rattle.std.specs.Prelude.{Some}
use Rattle.std.specs.Option.{option_or}
use Rattle.xcp_locked.proofs.PairedListLemmas.{turn, map_behind, first_of-more}
use Rattle.xcp_server.proofs.dealing.dismiss.Goals as goal

pub loop-worker-preserved : goal.loop-worker-preserved
loop-worker-preserved g c =
    let at = c.loop-worker in
    let was = at.invariant in
    let steps = c.in-Some.ensures.steps in
    let short = ap length steps.0 in
    let gone = steps.1 in
    let pushed = c.push_reserved.ensures.len in
    let room = c.push_reserved.ensures.capacity in
    let pushed_too = c.push_reserved-in-loop-worker.ensures.len in
    let room_too = c.push_reserved-in-loop-worker.ensures.capacity in (
      turn at.yielded _ _ _ c.in-Some.worker was.0 steps.0,
      omega (arith, short, gone, was.1),
      omega (arith, gone, pushed, room, was.2),
      map_behind (λ w. w.caller) _ at.yielded c.in-Some.worker _ _ was.3 c.push_reserved.ensures.items,
      room ∙ was.4,
      omega (arith, gone, pushed_too, room_too, was.5),
      map_behind (λ w. w.reader) _ at.yielded c.in-Some.worker _ _ was.6 c.push_reserved-in-loop-worker.ensures.items,
      room_too ∙ was.7,
      c.or-chapters.ensures ∙ (ap (λ z. option_or z (Some c.in-Some.worker.chapters)) was.8 ∙ first_of-more (λ w. w.chapters) at.yielded c.in-Some.worker),
    )
