-- A datagram that came, and how much of it was read.
use Rattle.std.specs.Prelude.{ℕ, List}

-- the bytes that came, and those of its whole frames that weren't read yet
pub record LetterValue : Type 0 where
  pub bytes : List ℕ
  pub unread : List ℕ
