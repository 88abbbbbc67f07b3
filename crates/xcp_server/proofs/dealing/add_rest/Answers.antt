use Rattle.std.proofs.Common.{◌∷◌, [], ◌++◌, length, ap, ◌∙◌, append_assoc, arith}
use Rattle.xcp_locked.proofs.PairedListLemmas.{turn}
use Rattle.xcp_server.proofs.dealing.add_rest.Goals as goal

pub loop-one-preserved : goal.loop-one-preserved
loop-one-preserved g c =
    let at = c.loop-one in
    let was = at.invariant in
    let steps = c.in-Some.ensures.steps in
    let short = ap length steps.0 in
    let gone = steps.1 in
    let pushed = c.push_reserved.ensures.len in
    let room = c.push_reserved.ensures.capacity in (
      turn at.yielded _ _ _ c.in-Some.one was.0 steps.0,
      omega (arith, short, gone, was.1),
      omega (arith, gone, pushed, room, was.2),
      c.push_reserved.ensures.items ∙ (ap (λ z. z ++ c.in-Some.one ∷ []) was.3 ∙ append_assoc _ at.yielded (c.in-Some.one ∷ [])),
      room ∙ was.4,
    )
