-- The words of an image's bytes.
use Rattle.std.specs.Prelude.{◌*◌, ◌/◌, ℕ, zero, suc, List, [], ◌∷◌, ◌++◌, length, take, drop}
use Rattle.std.specs.Int.{w64, from_le_bytes}

-- word k of an image
abbrev pub word_in_image : List ℕ → ℕ → ℕ
word_in_image image k = from_le_bytes w64 (take 8 (drop (8 * k) image))

-- the words of an image below n
abbrev pub words_below : ℕ → List ℕ → List ℕ
words_below zero image = []
words_below (suc n) image = words_below n image ++ word_in_image image n ∷ []

-- a buffer's words for an image and a number: those of the image's bytes, and the number behind them
abbrev pub words_for : List ℕ → ℕ → List ℕ
words_for image number = words_below (length image / 8) image ++ number ∷ []
