-- Where requests may change the controller's image.
use Rattle.std.specs.Prelude.{◌≡◌, ◌⊎◌, ℕ, ◌<◌, ◌≤◌, List, length, slice_index}

-- The second image has the bytes of the first at all its places but from `from` up to, and without, `to`.
abbrev pub SameOutside : ℕ → ℕ → List ℕ → List ℕ → Type 0
SameOutside from to xs ys = (k : ℕ) → k < length ys → (k < from) ⊎ (to ≤ k) → slice_index ys k ≡ slice_index xs k
