use Rattle.relay.proofs.StepLemmas.{hires}
use Rattle.relay.proofs.relay.Relay.hire.Goals as goal

pub another-pass-requires-clause-rule : goal.another-pass-requires-clause-rule
another-pass-requires-clause-rule g c = hires _ _ c.taker.invariant.1 c.taker.invariant.2
