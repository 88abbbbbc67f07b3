use Rattle.std.proofs.Common.{ap, sym, ◌∙◌}
use Rattle.relay.specs.private.Passes.{note_of}
use Rattle.relay.proofs.StepLemmas.{compares}
use Rattle.relay.proofs.ItemLemmas.{lacks}
use Rattle.relay.proofs.relay.Relay.count_left.Goals as goal

pub len_as-left-requires-clause-rule : goal.len_as-left-requires-clause-rule
len_as-left-requires-clause-rule g c = let lent = c.lend.ensures.taker in compares _ _ (ap (λ v. v.takes) lent) (ap (λ v. v.gives) lent)

pub returns-clause-left : goal.returns-clause-left
returns-clause-left g c =
    let held = c.len_as-left.ensures.rule in
    let noted = c.len_as-left.ensures.queue.2 in
    lacks c.giver.inside.tag _ (note_of c.part.new.taker).taken _ held.0 (note_of c.part.new.giver).given _ c.len_as-left.result
    (sym c.giver.invariant.3 ∙ sym (ap (λ v. v.tag) c.lend.ensures.taker))
    (ap (λ v. v.taken) c.part.ensures.taker ∙ ap (λ v. v.taken) noted)
    (ap (λ v. v.given) c.part.ensures.giver ∙ ap (λ v. v.given) noted)
    held.1
    held.2
