use Rattle.std.proofs.Common.{subst}
use Rattle.xcp_service.specs.Refusals.{IsKeeperRefusal}
use Rattle.xcp_service.proofs.refusal.Refusal.why.Goals as goal

pub returns-clause-refuses : goal.returns-clause-refuses
returns-clause-refuses g c = subst (IsKeeperRefusal g.N.Ledger.parts) c.self.view_is c.self.invariant
