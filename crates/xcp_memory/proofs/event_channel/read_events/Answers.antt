use Rattle.std.proofs.Common.{◌≡◌, length, ◌∙◌, ap, arith}
use Rattle.std.proofs.lemmas.Iterator.Adapters.{YieldsList-from_vec}
use Rattle.std.proofs.lemmas.Iterator.Consumers.{YieldsList-turn, YieldsList-so_far}
use Rattle.std.proofs.lemmas.Result.{err_from_is_err_and}
use Rattle.std.proofs.lemmas.Grind.{common_steps}
use Rattle.std.proofs.lemmas.List.{length-map}
use Rattle.xcp_memory.specs.LayoutParts.{event_of_part}
use Rattle.xcp_memory.proofs.BrokenLimitLemmas.{IsNext, event_kept, event_broken}
use Rattle.xcp_memory.proofs.event_channel.read_events.Goals as goal

pub returns-in_err-event-clause-refused : goal.returns-in_err-event-clause-refused
returns-in_err-event-clause-refused c =
    let all = c.args.parts.items in
    let xs = c.loop-part.yielded in
    let x = c.in-Some.part in
    let road = YieldsList-from_vec all c.into_iter-part-iterator.ensures.into_iter_gives.0 cc in
    let turn = YieldsList-turn road xs _ c.loop-part.yielded_by _ c.next.new.self x c.in-Some.is c.next.ensures.steps in
    let next : IsNext all xs x = record { front = YieldsList-so_far road xs _ c.loop-part.yielded_by; below = turn.0; next = turn.1 } in
    let number : c.len-in-loop-part.result ≡ length xs = c.len-in-loop-part.ensures.value ∙ ap length c.loop-part.invariant.items ∙ length-map xs event_of_part in
    let broken = event_broken c.args.class all xs x _ _ next number c.loop-part.invariant.kept c.in_err-event.ensures.refused (omega arith) (omega (arith, ap (λ l. l.events) c.limits.ensures.value)) in
    let p = err_from_is_err_and c.from_residual.result c.from_residual.ensures.1 in
    rw (p.1, p.2) broken

pub loop-part-preserved : goal.loop-part-preserved
loop-part-preserved c =
    let xs = c.loop-part.yielded in
    let x = c.in-Some.part in
    let number : c.len-in-loop-part.result ≡ length xs = c.len-in-loop-part.ensures.value ∙ ap length c.loop-part.invariant.items ∙ length-map xs event_of_part in
    record {
      items = grind (arith, common_steps);
      kept = event_kept xs x _ number c.loop-part.invariant.kept c.in_ok-event.ensures.ok.0;
    }
