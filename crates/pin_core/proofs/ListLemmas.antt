-- Lists read by an index.
use Rattle.std.proofs.Common.{◌≡◌, ◌≢◌, ℕ, ◌<◌, List, length, set, get_or, sym, ap, ◌∙◌, subst, get_or-set_other, get_or-set_same}
use Rattle.std.proofs.lemmas.List.{get_or_default}
use mathlib.Core.Logic.{dite}
use native.Mathlib.Decide.{ℕ_discrete}

module _ {A : Type 0} where
  -- what holds of the new element and of each other one
  pub at_each : (P : ℕ → A → Type 0) (l : List A) (i : ℕ) (a d : A) → i < length l → P i a → ((j : ℕ) → j ≢ i → P j (get_or l j d)) → (j : ℕ) → P j (get_or (set l i a) j d)
  at_each P l i a d inside here others j = dite (ℕ_discrete j i)
      (λ e. subst (λ (k : ℕ). P k (get_or (set l i a) k d)) (sym e) (subst (P i) (sym (get_or-set_same l i a d inside)) here))
      (λ ne. subst (P j) (sym (get_or-set_other l i j a d ne)) (others j ne))

  -- an element that is there, by any number equal to its place and any default
  pub there : (l : List A) (i j : ℕ) (d e : A) → i ≡ j → i < length l → get_or l i d ≡ get_or l j e
  there l i j d e same inside = get_or_default l i d e inside ∙ ap (λ (k : ℕ). get_or l k e) same
