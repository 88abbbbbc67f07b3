use Rattle.std.proofs.Common.{List, sym, subst}
use Rattle.xcp_service.specs.private.Waiting.{AreKept, WaitingValue}
use Rattle.xcp_service.proofs.KeepingLemmas.{kept_dropped}
use Rattle.xcp_service.proofs.keeper.Keeper.drop_settled.Goals as goal

pub invariant_of-self : goal.invariant_of-self
invariant_of-self g c =
    let k = c.self.inside in (
      c.self.invariant.0,
      subst (λ (ws : List WaitingValue). AreKept k.chapters.list k.sheaves.list ws) (sym c.drop_settled.ensures) (kept_dropped k.chapters.list k.sheaves.list k.waiting.items c.self.invariant.1),
      c.self.invariant.2,
      c.self.invariant.3,
    )
