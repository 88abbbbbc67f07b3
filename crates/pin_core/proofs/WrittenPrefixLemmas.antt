-- The words written, as the front of the buffer that is being built.
use Rattle.std.proofs.Common.{◌≡◌, ℕ, ◌+◌, ◌<◌, ◌≤◌, List, [], ◌∷◌, ◌++◌, length, set, get_or, take, sym, ap, ◌∙◌, subst, arith, get_or-set_same, length-take, Option, Some}
use Rattle.std.proofs.lemmas.List.{take_more_set}
use Rattle.pin_core.specs.CoreFields.{front_of}

module _ (building : Option ℕ) (b n : ℕ) (words : List (List ℕ)) (is : building ≡ Some b) where
  pub length_front : n ≤ length (get_or words b []) → length (front_of building n words) ≡ n
  length_front room = subst (λ (o : Option ℕ). length (front_of o n words) ≡ n) (sym is) (let l = length-take n (get_or words b []) in omega arith)

  pub front_more : (x : ℕ) → b < length words → n < length (get_or words b [])
      → front_of building (n + 1) (set words b (set (get_or words b []) n x)) ≡ front_of building n words ++ x ∷ []
  front_more x inside fits = subst (λ (o : Option ℕ). front_of o (n + 1) (set words b (set (get_or words b []) n x)) ≡ front_of o n words ++ x ∷ []) (sym is)
      (ap (take (n + 1)) (get_or-set_same words b (set (get_or words b []) n x) [] inside) ∙ take_more_set (get_or words b []) n x fits)
