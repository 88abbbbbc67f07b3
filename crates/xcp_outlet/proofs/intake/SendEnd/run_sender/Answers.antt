use Rattle.std.proofs.Common.{rules, ◌≡◌}
use Rattle.xcp_outlet.specs.private.SendingProgress.{Progress}
use Rattle.xcp_outlet.proofs.SendingLemmas.{of_same}
use Rattle.xcp_outlet.proofs.intake.SendEnd.run_sender.Goals as goal

pub loop-init : goal.loop-init
loop-init g c = (of_same _ _ _ c.open-intake.ensures.intake.1 (c.new-line.ensures _ _), search rules)

pub take-requires : goal.take-requires
take-requires g c =
    let same : c.take_now.new.self.taken ≡ c.loop.intake.taken = c.in_default.ensures.none in
    let was : Progress c.loop.line c.take_now.new.self.taken (g.W.Write.contents c.args.writer.now.inner) (g.W.Write.contents c.loop.writer.inner) c.args.writer.now.failures c.loop.writer.failures = of_same _ _ _ same c.loop.invariant.0 in
    search rules
