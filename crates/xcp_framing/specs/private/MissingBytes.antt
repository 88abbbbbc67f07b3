-- How many bytes a frame still wants.
use Rattle.std.specs.Prelude.{◌+◌, ◌-◌, ℕ, List, length, nat_lt, if◌then◌else◌}
use Rattle.xcp_framing.specs.Wire.{len_of}

-- how many bytes a frame that has begun wants next: those of LEN, then those that LEN tells of; none for a LEN above m
abbrev pub missing_of : ℕ → List ℕ → ℕ
missing_of m held = if nat_lt (length held) 2 then 2 - length held else (if nat_lt m (len_of held) then 0 else (4 + len_of held) - length held)
