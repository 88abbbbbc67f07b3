use Rattle.std.proofs.Common.{ap, ◌∙◌, arith, length, length-append}
use Rattle.std.proofs.lemmas.List.{length-map}
use Rattle.xcp_server.proofs.closing.put_together.Goals as goal

pub add_rest-callers-requires-2 : goal.add_rest-callers-requires-2
add_rest-callers-requires-2 g c =
    let all = c.add_rest-callers.result.ok.0 in
    let dismissed = c.dismiss-callers.result.0.ok.0 in
    let callers = c.args.ended.callers.ok.0 in
    let workers = c.args.ran.workers.ok.0 in
    let pumps = c.args.ended.pumps.ok.0 in
    let first = ap length c.dismiss-callers.ensures.callers ∙ length-append c.args.ended.callers.items _ in
    let mapped = length-map c.args.ran.workers.items (λ w. w.caller) in
    let second = ap length c.add_rest-callers.ensures.items ∙ length-append c.dismiss-callers.result.0.items _ in
    let rest = ap length c.into_iter.ensures.rest in
    let one = c.dismiss-callers.ensures.capacity in
    let two = c.add_rest-callers.ensures.capacity in
    let room = c.requires.room in
    omega (arith, all, dismissed, callers, workers, pumps, first, mapped, second, rest, one, two, room)
