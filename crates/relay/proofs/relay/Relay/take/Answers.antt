use Rattle.relay.proofs.StepLemmas.{takes}
use Rattle.relay.proofs.relay.Relay.take.Goals as goal

pub pop_as-requires-clause-rule : goal.pop_as-requires-clause-rule
pop_as-requires-clause-rule g c = (takes _ _ c.taker.invariant.1 c.taker.invariant.2, λ _ _ _ _. tt)
