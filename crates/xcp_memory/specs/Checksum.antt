-- The checksum of a range.
-- (ASAM MCD-1 XCP, protocol layer, description of commands: BUILD_CHECKSUM; its table of checksum types.)
use Rattle.std.specs.Prelude.{ℕ, zero, suc, Bool, List, not, [], ◌∷◌, length, drop, Option, ◌==◌, ◌/◌, ◌%◌, sum}
use Rattle.xcp_packet.specs.declared.Code.{Code}
use Rattle.xcp_packet.specs.declared.Code.TheVariants.{OutOfRange, AccessDenied}
use Rattle.xcp_packet.specs.declared.Order.{Order}
use Rattle.xcp_packet.specs.ByteOrder.{number_in}
use Rattle.xcp_packet.specs.Rows.{first_holding}
use Rattle.xcp_memory.specs.declared.checksum_kind.ChecksumKind.{ChecksumKind}
use Rattle.xcp_memory.specs.declared.checksum_kind.ChecksumKind.TheVariants.{Add11, Add12, Add14, Add22, Add24, Add44}
use Rattle.xcp_memory.specs.Pages.{PagesValue}
use Rattle.xcp_memory.specs.ComputedAccess.{lies_inside, tool_bytes}

-- the number of a type of checksum
abbrev pub checksum_number : ChecksumKind → ℕ
checksum_number Add11 = 1
checksum_number Add12 = 2
checksum_number Add14 = 3
checksum_number Add22 = 4
checksum_number Add24 = 5
checksum_number Add44 = 6

-- ADD_11, ADD_12 and ADD_14 add bytes, ADD_22 and ADD_24 words, ADD_44 double words: each number has so many bytes.
abbrev pub unit : ChecksumKind → ℕ
unit Add11 = 1
unit Add12 = 1
unit Add14 = 1
unit Add22 = 2
unit Add24 = 2
unit Add44 = 4

-- They are added into a byte (ADD_11), a word (ADD_12, ADD_22) or a double word (ADD_14, ADD_24, ADD_44): the sum is
-- taken modulo this.
abbrev pub modulus : ChecksumKind → ℕ
modulus Add11 = 0x100
modulus Add12 = 0x1_0000
modulus Add14 = 0x1_0000_0000
modulus Add22 = 0x1_0000
modulus Add24 = 0x1_0000_0000
modulus Add44 = 0x1_0000_0000

-- the first k numbers that bytes are, of n bytes each
abbrev pub numbers : Order → ℕ → ℕ → List ℕ → List ℕ
numbers order n zero bytes = []
numbers order n (suc k) bytes = number_in order n bytes ∷ numbers order n k (drop n bytes)

-- the checksum of these bytes: the sum of the bytes, words or double words that they are
abbrev pub summed : ChecksumKind → Order → List ℕ → ℕ
summed kind order bytes = sum (numbers order (unit kind) (length bytes / unit kind) bytes) % modulus kind

-- Why the checksum of n bytes is refused, if it is, by whether they lie in one area: there is none, then they are no
-- whole number of words or double words, and then where they lie.
abbrev pub sum_refusal : ChecksumKind → Bool → ℕ → Option Code
sum_refusal kind lies n =
    first_holding ((n == 0, OutOfRange) ∷ (not (n % unit kind == 0), OutOfRange) ∷ (not lies, AccessDenied) ∷ [])

-- why the checksum of n bytes from address a on is refused, if it is
abbrev pub checksum_refusal : PagesValue → ℕ → ℕ → Option Code
checksum_refusal v a n = sum_refusal v.layout.checksum (lies_inside v.layout a n) n

-- the checksum of the n bytes from address a on that the tool has
abbrev pub checksum_of : PagesValue → ℕ → ℕ → ℕ
checksum_of v a n = summed v.layout.checksum v.layout.order (tool_bytes v a n)
