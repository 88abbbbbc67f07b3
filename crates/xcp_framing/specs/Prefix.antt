-- A text of which a prefix was written: its first bytes, none, some or all.
use Rattle.std.specs.Prelude.{ℕ, List, Option}
use Rattle.std.specs.Io.KnownBytes.{Appends}
use mathlib.Core.List.{IsPrefix}

-- the bytes that a writer holds have grown by a prefix of the text, where they are known
pub record AppendsFront (old new : Option (List ℕ)) (text : List ℕ) : Type 0 where
  pub written : List ℕ
  pub grown : Appends old new written
  pub front : IsPrefix written text
