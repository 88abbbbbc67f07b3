use Rattle.std.proofs.Common.{ap, ◌∙◌}
use Rattle.relay.specs.private.Passes.{note_of}
use Rattle.relay.proofs.StepLemmas.{spares, lends}
use Rattle.relay.proofs.comparing.lend.Goals as goal

pub another-spare-requires-clause-rule : goal.another-spare-requires-clause-rule
another-spare-requires-clause-rule g c = spares _ _

pub absorb-requires-clause-rule : goal.absorb-requires-clause-rule
absorb-requires-clause-rule g c =
    let kept = c.another-spare.ensures.rule.0 in
    lends _ _ _ _ (ap (λ v. v.takes) kept ∙ c.requires.taker.0) (ap (λ v. v.gives) kept ∙ c.requires.taker.1)
    (ap (λ p. (note_of p).gives) c.replace-lent.ensures.value ∙ c.requires.giver.0) (ap (λ p. (note_of p).takes) c.replace-lent.ensures.value ∙ c.requires.giver.1)
