-- A place by value is what is owned there, and the handle of what frees it. Assumes `Logic`.
use mathlib.Core.Path.{◌≡◌, refl, subst}
use mathlib.Core.List.{List, [], ◌∷◌, ◌++◌}
use lib.Dec.{T}
use seplogic.Ra.Ura.{Ura}
use mir.Val.{Val, vstruct, of_list, has_ty, WT}
use base.Fml.{Fml}
use types.Logic.{Logic}
use types.Kit.{Goal, Step, step, Seq, Item, ‵, ◌$◌, !, move, drop, fsplit, fjoin, fpick, fpack, feq_l, feq_i}
use denote.RattleType.{RattleType, Valss}
use denote.RawPtr.{Ptr, RawPtr, block_ptr, null_ptr, ptr_val}
use denote.Steps.{nothing}
use denote.Struct.Struct.{within}
use denote.Struct.Owning.{Owning, shape}
use Rattle.std.proofs.Common.{lit<}
use Rattle.std.proofs.ResultValues.{and_tt}
use Rattle.std.proofs.BoxSteps.Form.{Bx, X, R, P, box_ty, handle}
use Rattle.std.proofs.alloc.Calls.{α, token, Fits, handle_tells}
use Rattle.xcp_c.specs.Held.{lies_there}
use Rattle.xcp_c.specs.contracts.place.Place as place

module _ (E : Bx) where
  abbrev pub owning : Owning
  owning = place.the_type (R E) (P E) E.al.g

  abbrev pub Place : RattleType
  Place = place.the_row (R E) (P E) E.al.g

  -- what is owned at a place
  abbrev pub there : Place.Denot → Fml
  there d = lies_there (token E.al d.alloc) (R E) d.at d.value

  -- a place as a machine has it
  abbrev pub pair : Ptr → Val → Val
  pair p hv = vstruct (of_list (ptr_val p ∷ hv ∷ []))

  pub pair_typed : (p : Ptr) (hv : Val) → Fits E.al hv → T (has_ty (box_ty E) (pair p hv)) × WT (pair p hv)
  pair_typed (block_ptr b o) hv fa = (and_tt (has_ty (α E.al) hv) fa.0, (tt, (fa.1, tt)))
  pair_typed null_ptr hv fa = (and_tt (has_ty (α E.al) hv) fa.0, (record { fits = lit< tt }, (fa.1, tt)))

module _ (E : Bx) {M : Type 1} {𝓤 : Ura M} {𝓛 : Logic 𝓤} {K : Type 0} {Γ : List (Item 𝓤)} {G : Goal 𝓤 𝓛.H} where
  pub place_out : K → (d : (Place E).Denot) (vs : List Val)
      → ((hv : Val) → vs ≡ pair E d.at hv ∷ [] → Fits E.al hv → Seq K 𝓛 (‵ (there E d) ∷ ‵ (handle E d.alloc hv) ∷ Γ) G)
      → Seq K 𝓛 (‵ ((Place E).own_val d vs) ∷ Γ) G
  place_out t d vs k =
      fsplit t $ fpick t (λ vss. fsplit t $ feq_l t (λ ev. fsplit t $ feq_l t (λ ep. fsplit t $ handle_tells E.al t d.alloc vss.1.0 (λ hv ea fa. move t (1 ∷ []) $ drop t $ move t (1 ∷ []) $ k hv
      (subst (λ (ws : List Val). vs ≡ vstruct (of_list (ptr_val d.at ∷ (ws ++ []))) ∷ []) ea (subst (λ (ps : List Val). vs ≡ vstruct (of_list (ps ++ (vss.1.0 ++ []))) ∷ []) ep ev)) fa))))

  pub place_in : K → {hv : Val} (d : (Place E).Denot) → Step K 𝓛 (‵ ((Place E).own_val d (pair E d.at hv ∷ [])) ∷ Γ) G (‵ (there E d) ∷ ‵ (handle E d.alloc hv) ∷ Γ) G
  place_in t {hv} d = step (λ s.
      nothing t $ move t (2 ∷ 0 ∷ []) $ fjoin t $ feq_i t (List Val) (ptr_val d.at ∷ []) (ptr_val d.at ∷ []) refl $ fjoin t $ feq_i t (List Val) (pair E d.at hv ∷ []) (pair E d.at hv ∷ []) refl $ fjoin t $
      fpack t (Valss (RawPtr ∷ P E ∷ [])) (within (shape (owning E)) (d.at, (d.alloc, tt)) (pair E d.at hv ∷ [])) (ptr_val d.at ∷ [], (hv ∷ [], tt)) $ fjoin t $ s)
