-- The lines of a text.
use Rattle.std.specs.Prelude.{◌≡◌, ◌≢◌, ℕ, List, [], ◌∷◌, ◌++◌, All, flat_map, map}
use Rattle.std.specs.Io.BufRead.{strip_last}

-- a line without the carriage return (13) at its end, if one stands there
unfoldable pub without_return : List ℕ → List ℕ
without_return line = strip_last 13 line

-- what stands behind the last line feed is a line, unless it is empty
abbrev pub unless_empty : List ℕ → List (List ℕ)
unless_empty [] = []
unless_empty (b ∷ bs) = (b ∷ bs) ∷ []

-- no line feed (10) stands in the bytes
abbrev pub HasNoFeed : List ℕ → Type 0
HasNoFeed bytes = All (λ b. b ≢ 10) bytes

-- These are the lines of the text: a line feed ends each line, and one carriage return right
-- before it is dropped; what stands behind the last line feed is a line too, unless it is empty.
pub record Lines (text : List ℕ) (lines : List (List ℕ)) : Type 0 where
  -- what stands before each line feed, and what stands behind the last one
  pub ended : List (List ℕ)
  pub last : List ℕ
  pub whole : text ≡ flat_map (λ line. line ++ 10 ∷ []) ended ++ last
  pub ended_once : All HasNoFeed ended
  pub not_ended : HasNoFeed last
  pub are : lines ≡ map without_return ended ++ unless_empty last
