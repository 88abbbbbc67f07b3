use Rattle.std.proofs.Common.{ap}
use Rattle.xcp_outlet.specs.PassKnowledge.{PassKnown}
use Rattle.xcp_outlet.specs.OutletEnds.{taking_of}
use Rattle.xcp_outlet.proofs.ChannelRuleLemmas.{takes}
use Rattle.xcp_outlet.proofs.intake.Intake.take.Goals as goal

pub recv_as-requires-clause-rule : goal.recv_as-requires-clause-rule
recv_as-requires-clause-rule g c = takes _ _ (taking_of c.self.inside.pass).taken (ap (λ (v : PassKnown). v.taken) c.self.invariant.1)
