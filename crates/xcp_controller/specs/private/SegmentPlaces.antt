-- Where the bytes of an address range stand in the image.
use Rattle.std.specs.Prelude.{◌≡◌, ℕ, ◌+◌, ◌≤◌, Some}
use Rattle.xcp_memory.specs.ComputedAccess.{place_in, segment_of}
use Rattle.xcp_memory.specs.EcuImage.{image_place}
use Rattle.xcp_memory.specs.Layout.{LayoutValue}

-- where the n bytes from address a on, which lie in a segment, stand inside of `from..to`
abbrev pub StandsWithin : LayoutValue → ℕ → ℕ → ℕ → ℕ → Type 0
StandsWithin l a n from to =
    (i : ℕ) → segment_of l a n ≡ Some i
    → (from ≤ image_place l i + place_in l i a) × (image_place l i + (place_in l i a + n) ≤ to)
