use Rattle.std.proofs.Common.{◌∙◌, ◌++◌, ◌∷◌, [], List, ap}
use Rattle.relay.specs.Ends.{TrayValue}
use Rattle.xcp_locked.specs.LockedSlave.{ChapterValue}
use Rattle.xcp_service.specs.Parcels.{ParcelValue, parcel_of_chapter}
use Rattle.xcp_service.proofs.ResidentLemmas.{goes_on_more, more_is_a_cut, published_cut}
use Rattle.xcp_service.proofs.resident.Resident.cut_chapter.Goals as goal

pub invariant_of-self-2 : goal.invariant_of-self-2
invariant_of-self-2 g c =
    let done = c.in-Ok.ensures {u = tt} in
    let was = ap (λ (t : TrayValue ParcelValue). t.put) c.clear.ensures in
    let put = c.put_chapter.ensures.put ∙ (ap (λ (ps : List ParcelValue). ps ++ parcel_of_chapter c.in-Ok.chapter ∷ []) was
    ∙ ap (λ (d : ChapterValue). c.self.inside.tray.put ++ parcel_of_chapter d ∷ []) done.chapter) in (
      c.put_chapter.ensures.same.0 ∙ (ap (λ (t : TrayValue ParcelValue). t.relay) c.clear.ensures ∙ c.self.invariant.0),
      c.put_chapter.ensures.same.1 ∙ (ap (λ (t : TrayValue ParcelValue). t.tag) c.clear.ensures ∙ c.self.invariant.1),
      goes_on_more g.N.Name.layout c.self.inside.tray.put c.put_chapter.new.tray.put c.self.inside.locked c.cut_chapter.new.self c.self.invariant.2 c.known.ensures.run done.next put,
      published_cut g.N.Name.layout c.self.inside.tray.put c.put_chapter.new.tray.put c.self.inside.locked c.cut_chapter.new.self c.self.invariant.3 done.next put,
    )

pub returns : goal.returns
returns g c =
    let done = c.in-Ok.ensures {u = tt} in
    let was = ap (λ (t : TrayValue ParcelValue). t.put) c.clear.ensures in
    let put = c.put_chapter.ensures.put ∙ (ap (λ (ps : List ParcelValue). ps ++ parcel_of_chapter c.in-Ok.chapter ∷ []) was
    ∙ ap (λ (d : ChapterValue). c.self.inside.tray.put ++ parcel_of_chapter d ∷ []) done.chapter) in
    more_is_a_cut c.args.self.now c.self.inside.tray.put c.put_chapter.new.tray.put c.self.inside.locked c.cut_chapter.new.self c.self.inside.sessions c.self.inside.stores c.self.view_is done.next put
