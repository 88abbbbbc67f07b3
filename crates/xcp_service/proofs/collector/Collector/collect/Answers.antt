use Rattle.std.proofs.Common.{◌≡◌, ◌≢◌, ℕ, [], ◌∙◌, ap, subst, sym}
use Rattle.relay.specs.Ends.{TakerValue}
use Rattle.xcp_service.specs.Keeping.{KeeperValue}
use Rattle.xcp_service.specs.Parcels.{ParcelValue, given_in}
use Rattle.xcp_service.specs.Refusals.{GoesNoFurther, RefusesParcel}
use Rattle.xcp_service.proofs.ParcelLemmas.{given_append, collected_more}
use Rattle.xcp_service.proofs.collector.Collector.collect.Goals as goal

pub loop-parcel-preserved : goal.loop-parcel-preserved
loop-parcel-preserved g c =
    let at = c.loop-parcel in
    let taken = c.in-Some-take.ensures.taken in
    let kept = c.in_default-take.ensures {u = tt} in (
      ap (λ (t : TakerValue ParcelValue). t.relay) taken ∙ at.invariant.0,
      collected_more g.N.Ledger.parts at.keeper c.take-in-loop-parcel.new.self at.taker.taken c.take.new.taker.taken (c.in-Some-take.tag, c.in-Some-take.parcel) at.invariant.1
          (ap (λ (t : TakerValue ParcelValue). t.taken) taken) kept.chapters kept.sheaves kept.own
          (subst (λ (d : ℕ). c.in-Some-take.tag ≢ d → c.in-Some-take.parcel.chapters ≡ []) c.self.invariant.3 kept.desk),
      subst (g.S.Scribe.wrote c.write_down.new.scribe) (sym (ap given_in kept.chapters ∙ given_append at.keeper.chapters c.in-Some-take.parcel.chapters))
          (c.write_down.ensures (given_in at.keeper.chapters) at.invariant.2),
    )

pub new-refusal-requires : goal.new-refusal-requires
new-refusal-requires g c =
    let tag = c.in-Some-take.tag in
    let why = c.in-Err.why in
    subst (λ (k : KeeperValue). GoesNoFurther (RefusesParcel g.N.Ledger.parts tag k c.of-came.result.value) why) (sym c.of-stood.ensures)
    (subst (λ (p : ParcelValue). GoesNoFurther (RefusesParcel g.N.Ledger.parts tag c.loop-parcel.keeper p) why) (sym c.of-came.ensures)
    (subst (λ (d : ℕ). GoesNoFurther (RefusesParcel d tag c.loop-parcel.keeper c.in-Some-take.parcel) why) c.self.invariant.3 c.in-Err.ensures.refused))

pub of-requires : goal.of-requires
of-requires g c =
    let at = c.loop-parcel in
    let kept = c.in_default-take.ensures {u = tt} in
    c.is_shelved.ensures c.if-is_shelved.true (given_in c.take-in-loop-parcel.new.self.chapters)
    (subst (g.S.Scribe.wrote c.write_down.new.scribe) (sym (ap given_in kept.chapters ∙ given_append at.keeper.chapters c.in-Some-take.parcel.chapters))
    (c.write_down.ensures (given_in at.keeper.chapters) at.invariant.2))
