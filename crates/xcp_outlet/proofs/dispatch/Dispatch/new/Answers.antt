use Rattle.std.proofs.Common.{◌∙◌, ap, sym, subst}
use Rattle.xcp_outlet.proofs.SendingLemmas.{of_same}
use Rattle.xcp_outlet.proofs.dispatch.Dispatch.new.Goals as goal

pub invariant_of-result : goal.invariant_of-result
invariant_of-result g c = (
  ap (λ t. t.outlet) c.open-intake.ensures.intake.0 ∙ c.requires.outlet,
  rw (← c.requires.before, ← c.requires.failures) (of_same _ _ _ c.open-intake.ensures.intake.1 (c.new-line.ensures _ _)),
)
