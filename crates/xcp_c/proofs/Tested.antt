-- A handle's pointer tells whether it owns a value. Assumes `Logic`.
use mathlib.Core.Path.{◌≡◌, refl, sym, subst}
use mathlib.Core.Bool.{Bool, not}
use lib.Dec.{T, lit<}
use seplogic.Ra.Ura.{Ura}
use mir.Raw.{raw}
use mir.Syntax.{ty_ptr}
use mir.Val.{vnull, ptr_same, has_ty, WT}
use base.Logic.{ent, guard, guard_i, via, fst∗, snd∗, never, never_e}
use types.Logic.{Logic, sem}
use contract.Monad.{fact, fact_mono, fact_use}
use denote.Memory.{lone}
use denote.RattleType.{RattleType}
use denote.RawPtr.{Ptr, block_ptr, null_ptr, ptr_val, lies_at, Testable}
use base.Fraction.{full_share}
use Rattle.std.proofs.GlobalToken.{dealloc_token-Testable}
use Rattle.std.specs.Global.{Global}
use Rattle.std.specs.Prelude.{MatchBool}
use Rattle.std.specs.contracts.impls.GlobalAllocator.TheImpl.{ghosts}
use Rattle.std.specs.declared.option.Option.{Option}
use Rattle.std.specs.declared.option.Option.TheVariants.{None, Some}
use Rattle.xcp_c.specs.Held.{IsOpen, held_at}

-- whether the pointer isn't null, as the code finds it
abbrev pub found : Ptr → Bool
found p = not (ptr_same (ptr_val p) vnull)

abbrev pub Told : {X : Type 0} → Ptr → Option X → Type 0
Told p o = Testable p × MatchBool (found p) (IsOpen o) (o ≡ None)

-- a pointer's value has a pointer's type, and its width holds it
pub ptr_typed : (p : Ptr) → T (has_ty ty_ptr (ptr_val p)) × WT (ptr_val p)
ptr_typed (block_ptr b o) = (tt, tt)
ptr_typed null_ptr = (tt, record { fits = lit< tt })

module _ {M : Type 1} {𝓤 : Ura M} (𝓛 : Logic 𝓤) (R : RattleType) (a : Global) where
  told : (p : Ptr) (o : Option R.Denot) → ent 𝓤 (sem 𝓛 (held_at R a p o)) (fact 𝓤 (Told p o))
  told (block_ptr b k) (Some x) =
      via 𝓤 (sem 𝓛 (ghosts.dealloc_token a (raw (lone R.mir)) (block_ptr b k)))
      (snd∗ 𝓤 (sem 𝓛 (lies_at R full_share (block_ptr b k) x)) (sem 𝓛 (ghosts.dealloc_token a (raw (lone R.mir)) (block_ptr b k))))
      (via 𝓤 (fact 𝓤 (Testable (block_ptr b k))) (dealloc_token-Testable 𝓛 a (raw (lone R.mir)) (block_ptr b k))
      (fact_mono 𝓤 (Testable (block_ptr b k)) (Told (block_ptr b k) (Some x)) (λ t. (t, (x, refl)))))
  told null_ptr (Some x) = via 𝓤 (never 𝓤) (fst∗ 𝓤 (never 𝓤) (sem 𝓛 (ghosts.dealloc_token a (raw (lone R.mir)) null_ptr))) (never_e 𝓤 (fact 𝓤 (Told null_ptr (Some x))))
  told p None = fact_mono 𝓤 (p ≡ null_ptr) (Told p None) (λ e. subst (λ (q : Ptr). Told {X = R.Denot} q None) (sym e) (lit< tt, refl))

  pub knows : (p : Ptr) (o : Option R.Denot) → ent 𝓤 (sem 𝓛 (held_at R a p o)) (guard 𝓤 (Told p o) (sem 𝓛 (held_at R a p o)))
  knows p o = fact_use 𝓤 (Told p o) (told p o) (λ t. guard_i 𝓤 (Told p o) (sem 𝓛 (held_at R a p o)) t)
