-- The strings that stand in bytes, one behind another.
use Rattle.std.specs.Prelude.{ℕ, zero, suc, ◌+◌, ◌*◌, ◌/◌, ◌%◌, List, [], ◌∷◌, length, take, drop, slice_index}
use Rattle.std.specs.List.{flat_map}

-- the length of the string at the head: two bytes, the lowest first
abbrev pub length_at : List ℕ → ℕ
length_at bytes = slice_index bytes 0 + slice_index bytes 1 * 256

-- the string at the head, and the bytes behind it
abbrev pub string_at : List ℕ → List ℕ
string_at bytes = take (length_at bytes) (drop 2 bytes)

abbrev pub behind_string : List ℕ → List ℕ
behind_string bytes = drop (length_at bytes) (drop 2 bytes)

-- the first n strings of the bytes
abbrev pub strings_in : ℕ → List ℕ → List (List ℕ)
strings_in zero bytes = []
strings_in (suc n) bytes = string_at bytes ∷ strings_in n (behind_string bytes)

-- a string behind its length
abbrev pub framed : List ℕ → List ℕ
framed string = length string % 256 ∷ length string / 256 ∷ string

-- the bytes of strings
abbrev pub spelt : List (List ℕ) → List ℕ
spelt strings = flat_map framed strings

-- A tape as contracts see it: its strings, in order, and how many bytes it can take before it needs more memory.
pub record TapeValue : Type 0 where
  pub strings : List (List ℕ)
  pub room : ℕ
