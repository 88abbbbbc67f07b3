use Rattle.std.proofs.Common.{ap}
use Rattle.relay.proofs.StepLemmas.{compares}
use Rattle.relay.proofs.relay.Relay.meets.Goals as goal

pub is_empty_as-met-requires-clause-rule : goal.is_empty_as-met-requires-clause-rule
is_empty_as-met-requires-clause-rule g c = let lent = c.lend.ensures.taker in compares _ _ (ap (λ v. v.takes) lent) (ap (λ v. v.gives) lent)
