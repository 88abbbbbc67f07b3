-- The bounds of what waits to be written.
use Rattle.std.specs.Prelude.{ℕ}

-- the most pieces, the one that is being written among them
abbrev pub most_pieces : ℕ
most_pieces = 512

-- the most bytes of these: 18 MiB
abbrev pub most_bytes : ℕ
most_bytes = 18874368
