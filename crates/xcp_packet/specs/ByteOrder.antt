-- Bytes, words and double words in a packet, and their byte order.
-- ASAM MCD-1 XCP, protocol layer, description of commands: CONNECT, BYTE_ORDER of COMM_MODE_BASIC.
use Rattle.std.specs.Prelude.{ℕ, List, drop, slice_index}
use Rattle.byteorder.specs.Endian.{little_number, little_bytes, big_number, big_bytes}
use Rattle.xcp_packet.specs.declared.order.Order.{Order}
use Rattle.xcp_packet.specs.declared.order.Order.TheVariants.{Intel, Motorola}

-- BYTE_ORDER, bit 0 of COMM_MODE_BASIC: set where the highest byte stands first
abbrev pub byte_order : Order → ℕ
byte_order Intel = 0
byte_order Motorola = 1

-- the number in the first n bytes
abbrev pub number_in : Order → ℕ → List ℕ → ℕ
number_in Intel n p = little_number n p
number_in Motorola n p = big_number n p

-- the n bytes of a number
abbrev pub bytes_of : Order → ℕ → ℕ → List ℕ
bytes_of Intel n x = little_bytes n x
bytes_of Motorola n x = big_bytes n x

-- the two bytes of a word, as they stand in a packet
abbrev pub word_bytes : Order → ℕ → List ℕ
word_bytes order x = bytes_of order 2 x

-- the four bytes of a double word, as they stand in a packet
abbrev pub double_bytes : Order → ℕ → List ℕ
double_bytes order x = bytes_of order 4 x

-- the byte at a place of a packet; its first byte has place 0
abbrev pub byte_at : ℕ → List ℕ → ℕ
byte_at place p = slice_index p place

-- the word whose first byte has this place
abbrev pub word_at : Order → ℕ → List ℕ → ℕ
word_at order place p = number_in order 2 (drop place p)

-- the double word whose first byte has this place
abbrev pub double_at : Order → ℕ → List ℕ → ℕ
double_at order place p = number_in order 4 (drop place p)
