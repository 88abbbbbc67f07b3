-- Where a cursor stands that has passed over the first elements of a list.
use Rattle.std.proofs.Common.{◌≡◌, ◌<◌, ℕ, zero, suc, ◌+◌, List, [], ◌∷◌, length, drop, refl, sym, ap, ◌∙◌, arith, add-one, length-drop}
use Rattle.std.specs.Prelude.{slice_get, Option, Some, None, MatchOption}
use Rattle.std.proofs.lemmas.Option.{slice_get_past}

first : {A : Type 0} → List A → Option A
first [] = None
first (x ∷ xs) = Some x

slice_get-drop : {A : Type 0} (xs : List A) (k : ℕ) → slice_get xs k ≡ first (drop k xs)
unfolding first
slice_get-drop [] zero = refl
slice_get-drop [] (suc k) = refl
slice_get-drop (x ∷ xs) zero = refl
slice_get-drop (x ∷ xs) (suc k) = slice_get-drop xs k

-- what it gives, where it stands at the k-th
pub given_here : {R A : Type 0} (value : R → A) (xs left rest : List A) (k : ℕ) (got : Option R) → left ≡ drop k xs
    → MatchOption got ((left ≡ []) × (rest ≡ [])) (λ r. left ≡ value r ∷ rest)
    → MatchOption got (slice_get xs k ≡ None) (λ r. slice_get xs k ≡ Some (value r))
unfolding first
given_here value xs left rest k None at h = slice_get-drop xs k ∙ ap first (sym at ∙ h.0)
given_here value xs left rest k (Some r) at h = slice_get-drop xs k ∙ ap first (sym at ∙ h)

drop_one : {A : Type 0} (xs : List A) (k : ℕ) → drop 1 (drop k xs) ≡ drop (suc k) xs
drop_one [] zero = refl
drop_one [] (suc k) = refl
drop_one (x ∷ xs) zero = refl
drop_one (x ∷ xs) (suc k) = drop_one xs k

-- where it stands once it has given one more
pub stands_behind : {A : Type 0} (xs left rest : List A) (k : ℕ) (x : A) → left ≡ drop k xs → left ≡ x ∷ rest → rest ≡ drop (k + 1) xs
stands_behind xs left rest k x at h = ap (λ (ys : List _). drop 1 ys) (sym h ∙ at) ∙ rw add-one (drop_one xs k)

-- behind the end there is nothing
pub past : {A : Type 0} (xs left : List A) (k i : ℕ) → left ≡ drop k xs → left ≡ [] → k < i → slice_get xs i ≡ None
past xs left k i at h before =
    let e : length (drop k xs) ≡ 0 = ap (λ (ys : List _). length ys) (sym at ∙ h) in
    slice_get_past xs i (omega (arith, e, length-drop k xs, before))
