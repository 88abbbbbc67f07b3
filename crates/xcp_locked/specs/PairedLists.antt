-- Lists that belong together, place by place.
use Rattle.std.specs.Prelude.{ℕ, ◌+◌, List, [], ◌∷◌, ⊤}

-- The lists are as long, and the two elements at each place are so related; the first place has the number k.
abbrev pub EachFrom : {A B : Type 0} → (ℕ → A → B → Type 0) → ℕ → List A → List B → Type 0
EachFrom R k [] [] = ⊤
EachFrom R k (x ∷ xs) (y ∷ ys) = R k x y × EachFrom R (k + 1) xs ys
EachFrom R k (x ∷ xs) [] = ⊥
EachFrom R k [] (y ∷ ys) = ⊥
