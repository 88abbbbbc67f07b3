-- The word in which a bank has the current buffer and its pins, so that one step reads or changes both.
use Rattle.std.specs.Prelude.{ℕ, ◌+◌, ◌*◌}

-- the buffer in the upper 32 bits, the count of its pins in the lower 32
abbrev pub head_of : ℕ → ℕ → ℕ
head_of index count = index * 4294967296 + count
