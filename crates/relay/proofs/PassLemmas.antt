-- A fact of all passes, after one of them changed or came.
use Rattle.std.proofs.Common.{◌≡◌, ◌≢◌, ℕ, zero, suc, List, [], ◌∷◌, ◌++◌, length, set, refl, sym, ap, subst, ⊎_elim, ◌⊎◌, inl, inr}
use mathlib.Core.Option.{some, some-injective, some-ne-none}
use lib.ListN.{get_elem?}
use Rattle.crossbeam_queue.proofs.Lists.{at_set}

module _ {A : Type 0} where
  abbrev pub All : (ℕ → A → Type 0) → List A → Type 0
  All F l = (j : ℕ) (a : A) → get_elem? l j ≡ some a → F j a

  pub all_one : (F : ℕ → A → Type 0) (a : A) → F 0 a → All F (a ∷ [])
  all_one F a mine zero b e = subst (F 0) (some-injective a b e) mine
  all_one F a mine (suc j) b e = absurd (some-ne-none b (sym e))

  pub all_set : (F : ℕ → A → Type 0) (l : List A) (i : ℕ) (a : A) → F i a → ((j : ℕ) (b : A) → j ≢ i → get_elem? l j ≡ some b → F j b) → All F (set l i a)
  all_set F l i a mine others j b e = ⊎_elim (λ (x : (j ≡ i) × (a ≡ b)). subst (λ (y : ℕ × A). F y.0 y.1) (λ k. (sym x.0 k, x.1 k)) mine)
      (λ (x : (j ≢ i) × (get_elem? l j ≡ some b)). others j b x.0 x.1) (at_set l i j a b e)

  at_end : (l : List A) (a b : A) (j : ℕ) → get_elem? (l ++ a ∷ []) j ≡ some b → (get_elem? l j ≡ some b) ⊎ ((j ≡ length l) × (a ≡ b))
  at_end [] a b zero e = inr (refl, some-injective a b e)
  at_end [] a b (suc j) e = absurd (some-ne-none b (sym e))
  at_end (x ∷ xs) a b zero e = inl e
  at_end (x ∷ xs) a b (suc j) e = ⊎_elim (λ h. inl h) (λ (h : (j ≡ length xs) × (a ≡ b)). inr (ap suc h.0, h.1)) (at_end xs a b j e)

  pub all_end : (F : ℕ → A → Type 0) (l : List A) (a : A) → F (length l) a → All F l → All F (l ++ a ∷ [])
  all_end F l a last all j b e = ⊎_elim (λ h. all j b h) (λ (x : (j ≡ length l) × (a ≡ b)). subst (λ (y : ℕ × A). F y.0 y.1) (λ k. (sym x.0 k, x.1 k)) last) (at_end l a b j e)

  -- what stood at another place before a place was set
  pub before_set : (l : List A) (i j : ℕ) (a b : A) → j ≢ i → get_elem? (set l i a) j ≡ some b → get_elem? l j ≡ some b
  before_set l i j a b other e = ⊎_elim (λ (x : (j ≡ i) × (a ≡ b)). absurd (other x.0)) (λ (x : (j ≢ i) × (get_elem? l j ≡ some b)). x.1) (at_set l i j a b e)
