-- The word that asks for faults without words.
use Rattle.std.specs.Prelude.{◌≡◌, ℕ, List, ◌∷◌, codes}

-- the program's words have it right behind the program's name
abbrev pub AsksPlainly : List (List ℕ) → Type 0
AsksPlainly (name ∷ word ∷ rest) = word ≡ codes "--plain"
AsksPlainly _ = ⊥

-- they have it there, and these are the others
abbrev pub IsPlainAsked : List (List ℕ) → List (List ℕ) → Type 0
IsPlainAsked words others = (name : List ℕ) × (rest : List (List ℕ)) × (words ≡ name ∷ codes "--plain" ∷ rest) × (others ≡ name ∷ rest)
