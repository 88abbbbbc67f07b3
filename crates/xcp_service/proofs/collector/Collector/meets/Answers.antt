use Rattle.std.proofs.Common.{◌∙◌, List, ap, sym}
use Rattle.relay.specs.Ends.{TakerValue, items_of}
use Rattle.xcp_locked.specs.Sheaves.{SheafValue}
use Rattle.xcp_service.specs.Keeping.{receipts_by}
use Rattle.xcp_service.specs.Parcels.{ParcelValue, receipts_put}
use Rattle.xcp_service.proofs.ParcelLemmas.{by_number}
use Rattle.xcp_service.proofs.collector.Collector.meets.Goals as goal

pub returns-clause-meets : goal.returns-clause-meets
returns-clause-meets g c met =
    let tag = c.meets.new.giver.tag in
    let collected = c.self.invariant.1 in
    ap (λ (ss : List SheafValue). receipts_by tag ss) collected.sheaves
    ∙ (by_number tag c.self.inside.taker.taken collected.callers
    ∙ ap receipts_put (ap (λ (t : TakerValue ParcelValue). items_of tag t.taken) (sym c.meets.ensures.same.1) ∙ c.meets.ensures.meets met))
