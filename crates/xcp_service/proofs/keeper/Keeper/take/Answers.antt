use Rattle.std.proofs.Common.{◌≡◌, ◌∙◌, ◌∷◌, [], ap, inl, sym}
use Rattle.std.specs.Prelude.{option_to_list}
use Rattle.std.proofs.lemmas.Result.{err_from_is_err_and}
use Rattle.xcp_service.specs.Parcels.{ParcelValue}
use Rattle.xcp_service.specs.Refusals.{RefusesParcel}
use Rattle.xcp_service.proofs.RefusalLemmas.{no_further}
use Rattle.xcp_service.proofs.keeper.Keeper.take.Goals as goal

pub returns-in_err-take_chapter-in-Some-default-clause-refused : goal.returns-in_err-take_chapter-in-Some-default-clause-refused
returns-in_err-take_chapter-in-Some-default-clause-refused g c =
    let is : c.args.parcel.chapters ≡ c.in-Some-default.chapter ∷ [] = sym (ap (λ (p : ParcelValue). p.chapters) c.parcel.view_is) ∙ ap option_to_list c.in-Some-default.is-0 in
    let refused = no_further _ (RefusesParcel c.args.desk c.args.number c.args.self.now c.args.parcel) (λ d h. inl (c.in-Some-default.chapter, is, h)) _ c.in_err-take_chapter-in-Some-default.ensures.refused in
    let r = c.from_residual in
    let p = err_from_is_err_and r.result r.ensures.1 in
    rw (p.1, p.2) refused
