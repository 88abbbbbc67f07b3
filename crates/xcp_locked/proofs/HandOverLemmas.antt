-- Elements of a list that are handed over one by one.
use Rattle.std.proofs.Common.{◌≡◌, ℕ, List, [], ◌∷◌, length, get_or, arith, sym, ◌∙◌, subst}
use denote.Param.Members.{Mut, Called}
use Rattle.std.proofs.lemmas.List.{ext_get_or}
use Rattle.std.specs.Array.{IsMapOf}
use Rattle.std.specs.List.{AllByRecursion}
use Rattle.std.specs.Array.{list_steps}
use Rattle.std.specs.Iterator.{Yields}

-- what holds of each element holds of those that are left when some were handed over
pub all_left : {A : Type 0} (P : A → Type 0) (s xs t : List A) → AllByRecursion P s → Yields list_steps s xs t → AllByRecursion P t
all_left P s [] t all h = subst (AllByRecursion P) h all
all_left P s (x ∷ xs) t all h = all_left P h.0 xs t (subst (AllByRecursion P) h.1 all).1 h.2

-- a function that gives back what it takes gives the same list
pub same_map : {F A : Type 0} {g : Mut F (A × Unit {0}) A} {f : F} (d : A) (xs ys : List A) (n : ℕ) → IsMapOf g f xs ys n → length xs ≡ n → ((p : F) (x y : A) (q : F) → Called g p (x, tt) y q → y ≡ x) → ys ≡ xs
same_map d xs ys n m len same = ext_get_or d ys xs (m.long ∙ sym len) (λ i low. let long = m.long in let h = m.at i d d (omega (arith, low, long)) in same h.0 (get_or xs i d) (get_or ys i d) h.1 h.2)
