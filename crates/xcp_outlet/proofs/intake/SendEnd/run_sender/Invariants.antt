use Rattle.std.proofs.Common.{◌≡◌}
use Rattle.xcp_outlet.specs.private.SendingProgress.{Progress}
use Rattle.xcp_outlet.proofs.intake.SendEnd.run_sender.Given as goal

abbrev pub invariant-loop : goal.invariant-loop
invariant-loop g l = Progress l.line l.intake.taken (g.W.Write.contents l.fn.writer.inner) (g.W.Write.contents l.writer.inner) l.fn.writer.failures l.writer.failures × (l.intake.outlet ≡ l.fn.self.outlet)
