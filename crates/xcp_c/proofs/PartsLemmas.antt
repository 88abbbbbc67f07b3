-- Where a text in C ends.
use Rattle.std.specs.Prelude.{not}
use Rattle.std.proofs.Common.{◌≡◌, ◌<◌, ◌⊎◌, inl, inr, ℕ, List, length, None, sym}
use Rattle.std.proofs.Math.Nat.{eq-or-lt_of_le}
use Rattle.std.proofs.lemmas.Bool.{lt-ltb}
use Rattle.std.proofs.lemmas.List.Sums.{prefix_len-le-length}
use Rattle.std.specs.List.{position, position_or_len}
use Rattle.xcp_c.specs.PartsInC.{is_zero}

ends_so : (bytes : List ℕ) → position is_zero bytes ≡ None → (position_or_len is_zero bytes ≡ length bytes) ⊎ (position_or_len is_zero bytes < length bytes) → length bytes ≡ position_or_len is_zero bytes
ends_so bytes none (inl all) = sym all
ends_so bytes none (inr within) =
    let told = lt-ltb (position_or_len is_zero bytes) (length bytes) within in
    absurd cc

-- a text without a 0 ends behind its last byte
pub ends_behind : (bytes : List ℕ) → position is_zero bytes ≡ None → length bytes ≡ position_or_len is_zero bytes
ends_behind bytes none = ends_so bytes none (eq-or-lt_of_le (prefix_len-le-length (λ b. not (is_zero b)) bytes))
