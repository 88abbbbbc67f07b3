use Rattle.std.proofs.Common.{List, [], ◌∷◌, ◌++◌, ap, ◌∙◌}
use Rattle.xcp_locked.specs.Receipts.{ReceiptsValue}
use Rattle.xcp_locked.proofs.PlacedExchangeLemmas.{placed_more}
use Rattle.xcp_locked.proofs.receipts.Receipts.push.Goals as goal

pub returns-clause-ok : goal.returns-clause-ok
returns-clause-ok c =
    rw (c.push_reserved.ensures.items, c.push.ensures, c.lent.ensures.request, c.lay-told.ensures)
    (placed_more c.self.inside.places.items c.self.inside.exchanges.exchanges _ _ c.self.invariant
    ∙ ap (λ (r : ReceiptsValue). r.list ++ c.args.receipt.now ∷ []) c.self.view_is
    ∙ ap (λ (l : List _). l ++ c.args.receipt.now ∷ []) (c.in_ok-reserve.ensures {u = tt}).list)
