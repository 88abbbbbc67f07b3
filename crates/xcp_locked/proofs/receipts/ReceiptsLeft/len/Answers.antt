use Rattle.std.proofs.Common.{length, sym, ap, ◌∙◌}
use Rattle.xcp_locked.proofs.PlacedExchangeLemmas.{placed_length}
use Rattle.xcp_locked.proofs.receipts.ReceiptsLeft.len.Goals as goal

pub returns : goal.returns
returns c = sym (placed_length c.self.inside.places.now c.self.inside.exchanges c.self.invariant) ∙ ap length c.self.view_is
