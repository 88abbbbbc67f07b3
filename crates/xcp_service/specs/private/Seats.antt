-- Seats of which none stands in a list twice, so that there is room for all of them.
use Rattle.std.specs.Prelude.{◌≡◌, ◌<◌, ◌==◌, ℕ, ⊤, false, List, [], ◌∷◌}
use Rattle.std.specs.List.{AllByRecursion}

-- this seat isn't among these
abbrev pub Lacks : ℕ → List ℕ → Type 0
Lacks seat seats = AllByRecursion (λ s. (s == seat) ≡ false) seats

-- none is there twice
abbrev pub AreSingle : List ℕ → Type 0
AreSingle [] = ⊤
AreSingle (s ∷ ss) = Lacks s ss × AreSingle ss

-- numbers of seats, none of them twice
pub record AreSeats (seats : List ℕ) : Type 0 where
  pub numbers : AllByRecursion (λ s. s < 256) seats
  pub single : AreSingle seats
