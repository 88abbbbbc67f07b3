use Rattle.relay.proofs.StepLemmas.{begins}
use Rattle.relay.proofs.relay.Relay.new.Goals as goal

pub with_rule-requires : goal.with_rule-requires
with_rule-requires g c = begins
