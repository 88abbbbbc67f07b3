-- The host at which tools reach a slave.
use Rattle.std.specs.Prelude.{ℕ, ◌<◌, ◌≤◌, List, length, slice_index}

-- 1 to 255 printable ASCII characters, and no blank: a name or an address has no others
pub record IsHost (text : List ℕ) : Type 0 where
  pub some : 0 < length text
  pub most : length text ≤ 255
  pub low : (i : ℕ) → i < length text → 0x21 ≤ slice_index text i
  pub high : (i : ℕ) → i < length text → slice_index text i ≤ 0x7E
