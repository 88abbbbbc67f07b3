use Rattle.std.proofs.Common.{rules, ◌≡◌, length, sym, ap, ◌∙◌}
use Rattle.std.specs.Prelude.{vec_len}
use Rattle.xcp_locked.specs.Receipts.{ReceiptsValue}
use Rattle.xcp_locked.proofs.PlacedExchangeLemmas.{placed_length}
use Rattle.xcp_locked.proofs.receipts.Receipts.len.Goals as goal

pub returns : goal.returns
returns c =
    let count : vec_len c.self.inside.places ≡ length c.self.inside.places.items = search rules in
    c.len.ensures ∙ count
    ∙ (sym (placed_length c.self.inside.places.items c.self.inside.exchanges.exchanges c.self.invariant)
    ∙ ap (λ (r : ReceiptsValue). length r.list) c.self.view_is)
