-- The value of a hex digit.
use Rattle.std.specs.Prelude.{ℕ, unwrap_or}
use Rattle.hex.specs.Hex.{hex_digit_value}

-- the value of a digit of either case, and 256 of what is none
abbrev pub value_or : ℕ → ℕ
value_or digit = unwrap_or (hex_digit_value digit) 256
