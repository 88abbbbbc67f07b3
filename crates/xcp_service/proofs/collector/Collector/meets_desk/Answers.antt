use Rattle.std.proofs.Common.{◌∙◌, ℕ, ap, sym}
use Rattle.relay.specs.Ends.{GiverValue, TakerValue, items_of}
use Rattle.xcp_service.specs.Parcels.{ParcelValue, chapters_put}
use Rattle.xcp_service.proofs.ParcelLemmas.{chapters_of_desk}
use Rattle.xcp_service.proofs.collector.Collector.meets_desk.Goals as goal

pub returns-clause-meets : goal.returns-clause-meets
returns-clause-meets g c met =
    let taken = c.self.inside.taker.taken in
    let collected = c.self.invariant.1 in
    let same = c.meets.ensures.same in
    let tag = sym c.requires.chapters.1 ∙ sym (ap (λ (x : GiverValue ParcelValue). x.tag) same.0) in
    collected.chapters
    ∙ (chapters_of_desk g.N.Ledger.parts taken collected.only
    ∙ ap chapters_put
    (ap (λ (n : ℕ). items_of n taken) tag
    ∙ (ap (λ (t : TakerValue ParcelValue). items_of c.meets.new.giver.tag t.taken) (sym same.1) ∙ (c.meets.ensures.meets met ∙ ap (λ (x : GiverValue ParcelValue). x.given) same.0))))
