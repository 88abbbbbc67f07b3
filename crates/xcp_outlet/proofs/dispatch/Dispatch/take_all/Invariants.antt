use Rattle.std.proofs.Common.{◌≡◌}
use Rattle.xcp_outlet.specs.private.SendingProgress.{Progress}
use Rattle.xcp_outlet.proofs.dispatch.Dispatch.take_all.Given as goal

abbrev pub invariant-loop : goal.invariant-loop
invariant-loop g l = (l.intake.outlet ≡ g.L.LineName.outlet l.fn.self.place) × Progress l.line l.intake.taken (g.L.LineName.before l.fn.self.place) (g.W.Write.contents l.writer.inner) (g.L.LineName.failures l.fn.self.place) l.writer.failures
