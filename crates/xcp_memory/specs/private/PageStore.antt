-- How the pages of a segment are stored: one after another.
use Rattle.std.specs.Prelude.{ℕ, zero, suc, List, [], ◌∷◌, take, drop}

-- the first n pages of these bytes, each of this size
abbrev pub pages_in : ℕ → ℕ → List ℕ → List (List ℕ)
pages_in zero size bytes = []
pages_in (suc n) size bytes = take size bytes ∷ pages_in n size (drop size bytes)
