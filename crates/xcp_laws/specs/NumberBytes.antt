-- The numbers that bytes of a packet are.
-- (ASAM MCD-1 XCP, protocol layer, description of commands: CONNECT, BYTE_ORDER of COMM_MODE_BASIC.)
use Rattle.std.specs.Prelude.{ℕ, ◌+◌, ◌*◌}
use Rattle.xcp_packet.specs.declared.Order.{Order}
use Rattle.xcp_packet.specs.declared.Order.TheVariants.{Intel, Motorola}

-- the word that two bytes are, one behind the other
abbrev pub word_of : Order → ℕ → ℕ → ℕ
word_of Intel a b = a + 0x100 * b
word_of Motorola a b = 0x100 * a + b

-- the double word that four bytes are
abbrev pub double_of : Order → ℕ → ℕ → ℕ → ℕ → ℕ
double_of Intel a b c d = a + 0x100 * b + 0x1_0000 * c + 0x100_0000 * d
double_of Motorola a b c d = 0x100_0000 * a + 0x1_0000 * b + 0x100 * c + d
