use Rattle.relay.proofs.StepLemmas.{gives}
use Rattle.relay.proofs.relay.Relay.give.Goals as goal

pub push_as-requires-clause-rule : goal.push_as-requires-clause-rule
push_as-requires-clause-rule g c n = gives n _ _ _ c.giver.invariant.1 c.giver.invariant.2 c.giver.invariant.3
