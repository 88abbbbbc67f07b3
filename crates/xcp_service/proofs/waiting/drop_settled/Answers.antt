use Rattle.std.proofs.Common.{not, rules}
use Rattle.std.proofs.lemmas.Fn.{filter_same}
use Rattle.xcp_service.specs.private.Waiting.{WaitingValue, owes_nothing}
use Rattle.xcp_service.proofs.waiting.drop_settled.Goals as goal

pub returns : goal.returns
returns g c = filter_same _ (λ (w : WaitingValue). not (owes_nothing w)) _ (λ w b after said. search rules) _ _ c.retain.ensures.filtered
