use Rattle.relay.proofs.StepLemmas.{parts}
use Rattle.relay.proofs.comparing.part.Goals as goal

pub another-requires-clause-rule : goal.another-requires-clause-rule
another-requires-clause-rule g c = parts _ _ c.requires.taker.0 c.requires.taker.1
