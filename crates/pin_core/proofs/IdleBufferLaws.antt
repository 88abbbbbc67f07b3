-- In a lawful state some buffer that is not current has no holder: six readers hold six buffers at most.
use Rattle.std.proofs.Common.{◌≡◌, ◌≢◌, ℕ, zero, suc, ◌+◌, ◌<◌, ◌≤◌, List, [], ◌∷◌, length, refl, subst, arith, Option, Some, None, ◌⊎◌, inl, inr, ⊎_elim}
use Rattle.std.proofs.lemmas.List.Sums.{sum_by-cons}
use mathlib.Core.Logic.{dite}
use native.Mathlib.Decide.{ℕ_discrete}
use Rattle.pin_core.specs.State.{Reader, PinState}
use Rattle.pin_core.specs.StateInvariant.{at_buffer, holders, Lawful, IsIdle}
use Rattle.pin_core.proofs.HolderCountLemmas.{at_same, at_other}

-- how often the buffers below n are held
abbrev held_below : ℕ → List Reader → ℕ
held_below zero rs = 0
held_below (suc n) rs = held_below n rs + holders n rs

abbrev hot : ℕ → Option (ℕ × ℕ) → ℕ
hot zero o = 0
hot (suc n) o = hot n o + at_buffer n o

-- one reader holds one buffer at most
hot_once : (n : ℕ) (o : Option (ℕ × ℕ)) → hot n o ≤ 1
hot_once n None = let e = cold n in omega arith
  where
    cold : (n : ℕ) → hot n None ≡ 0
    cold zero = refl
    cold (suc n) = let e = cold n in omega arith
hot_once n (Some h) = at_most n
  where
    under : (n : ℕ) → n ≤ h.0 → hot n (Some h) ≡ 0
    under zero l = refl
    under (suc n) l = let e = under n (omega arith) in let f : at_buffer n (Some h) ≡ 0 = at_other h.0 n h.1 (λ i. omega arith) in omega arith

    at_most : (n : ℕ) → hot n (Some h) ≤ 1
    at_most zero = omega arith
    at_most (suc n) = dite (ℕ_discrete h.0 n)
        (λ e. let z = under n (omega arith) in let f : at_buffer n (Some h) ≡ 1 = subst (λ (k : ℕ). at_buffer k (Some h) ≡ 1) e (at_same h.0 h.1) in omega arith)
        (λ ne. let z = at_most n in let f : at_buffer n (Some h) ≡ 0 = at_other h.0 n h.1 ne in omega arith)

below_one : (n : ℕ) (x : Reader) (rs : List Reader) → held_below n (x ∷ rs) ≡ held_below n rs + hot n x.held
below_one zero x rs = omega arith
below_one (suc n) x rs = let e = below_one n x rs in let s = sum_by-cons (λ (y : Reader). at_buffer n y.held) x rs in omega arith

below_all : (n : ℕ) (rs : List Reader) → held_below n rs ≤ length rs
below_all n [] = let z = nothing n in omega arith
  where
    nothing : (n : ℕ) → held_below n [] ≡ 0
    nothing zero = refl
    nothing (suc n) = let z = nothing n in let f : holders n [] ≡ 0 = refl in omega arith
below_all n (x ∷ rs) = let e = below_one n x rs in let h = hot_once n x.held in let m = below_all n rs in omega arith

module _ (i : ℕ) (rs : List Reader) where
  abbrev Idle : ℕ → Type 0
  Idle n = (b : ℕ) × (b < n) × (b ≢ i) × (holders b rs ≡ 0)

  abbrev Full : ℕ → Type 0
  Full n = (i < n → n ≤ held_below n rs + 1) × (n ≤ i → n ≤ held_below n rs)

  find_idle : (n : ℕ) → Idle n ⊎ Full n
  find_idle zero = inr ((λ h. omega arith), λ h. omega arith)
  find_idle (suc n) = ⊎_elim {A = Idle n} {B = Full n}
      (λ f. let f₁ = f.1 in inl (f.0, omega arith, f.2, f.3))
      (λ f. dite (ℕ_discrete n i)
      (λ e. let low = f.1 in inr ((λ h. let g = low (omega arith) in omega arith), λ h. absurd (omega arith)))
      (λ ne. dite (ℕ_discrete (holders n rs) 0)
      (λ z. inl (n, omega arith, ne, z))
      (λ some. let f₀ = f.0 in let f₁ = f.1 in inr ((λ h. let g = f₀ (omega arith) in omega arith), λ h. let g = f₁ (omega arith) in omega arith))))
      (find_idle n)

-- in a lawful state there is a buffer, not the current one, that nobody holds
pub some_idle : (W : ℕ) (s : PinState) → Lawful W s → (b : ℕ) × IsIdle s b
some_idle W s law = ⊎_elim {A = Idle s.index s.readers 8} {B = Full s.index s.readers 8} (λ f. (f.0, (f.1, f.2, f.3)))
    (λ f. let b = below_all 8 s.readers in let i = law.sizes.index in let n = law.sizes.seats in let g = f.0 i in absurd (omega arith)) (find_idle s.index s.readers 8)
