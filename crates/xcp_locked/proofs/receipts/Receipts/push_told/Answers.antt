use Rattle.std.proofs.Common.{[], ◌∷◌, ◌++◌, ap, ◌∙◌}
use Rattle.xcp_slave.specs.AnswerInBytes.{answer_in}
use Rattle.xcp_slave.specs.AskedRequest.{request_asked}
use Rattle.xcp_locked.specs.Receipts.{ReceiptsValue, receipt}
use Rattle.xcp_locked.proofs.PlacedExchangeLemmas.{placed_more}
use Rattle.xcp_locked.proofs.receipts.Receipts.push_told.Goals as goal

pub returns : goal.returns
returns c =
    rw (c.push_reserved.ensures.items, c.push.ensures)
    (placed_more c.self.inside.places.items c.self.inside.exchanges.exchanges _ _ c.self.invariant
    ∙ ap (λ (r : ReceiptsValue). r.list ++ receipt c.args.place.chapter c.args.place.at (request_asked c.args.asked) (answer_in c.args.told.now c.args.packet.now) ∷ []) c.self.view_is)
