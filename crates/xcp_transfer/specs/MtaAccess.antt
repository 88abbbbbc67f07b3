-- Reads and writes at a memory transfer address (MTA).
use Rattle.std.specs.Prelude.{ℕ, ◌+◌, Bool, false, List, [], length, take, drop, Option, Some, nat_le}
use Rattle.xcp_packet.specs.declared.Code.{Code}
use Rattle.xcp_packet.specs.declared.Code.TheVariants.{AccessDenied, WriteProtected}
use Rattle.xcp_memory.specs.Pages.{PagesValue}
use Rattle.xcp_memory.specs.ComputedAccess.{lies_inside, tool_bytes, write_refusal, pages_written}
use Rattle.xcp_memory.specs.Checksum.{summed, sum_refusal, checksum_refusal}
use Rattle.xcp_transfer.specs.declared.mta.Mta.{Mta}
use Rattle.xcp_transfer.specs.declared.mta.Mta.TheVariants.{Nowhere, Memory, Text}
use Rattle.xcp_transfer.specs.TransferValue.{text_of}

-- Whether n bytes can be read from an MTA on: at an address where they lie in one area, in a text where as many
-- are left, and nowhere none.
abbrev pub is_readable : PagesValue → Mta → ℕ → Bool
is_readable p Nowhere n = false
is_readable p (Memory a) n = lies_inside p.layout a n
is_readable p (Text id place) n = nat_le (place + n) (length (text_of p.layout id))

-- the n bytes from an MTA on
abbrev pub bytes_at : PagesValue → Mta → ℕ → List ℕ
bytes_at p Nowhere n = []
bytes_at p (Memory a) n = tool_bytes p a n
bytes_at p (Text id place) n = take n (drop place (text_of p.layout id))

-- Why a write of n bytes at an MTA is refused, if it is. Nowhere is no access (24), a text is protected (23).
abbrev pub write_refusal_at : PagesValue → Mta → ℕ → Option Code
write_refusal_at p Nowhere n = Some AccessDenied
write_refusal_at p (Memory a) n = write_refusal p a n
write_refusal_at p (Text id place) n = Some WriteProtected

-- the pages after a write at an MTA that isn't refused
abbrev pub written_at : PagesValue → Mta → List ℕ → PagesValue
written_at p Nowhere bytes = p
written_at p (Memory a) bytes = pages_written p a bytes
written_at p (Text id place) bytes = p

-- the MTA n bytes on
abbrev pub moved : Mta → ℕ → Mta
moved Nowhere n = Nowhere
moved (Memory a) n = Memory (a + n)
moved (Text id place) n = Text id (place + n)

-- Why the checksum of n bytes from an MTA on is refused, if it is. Nowhere and in a text no bytes lie in an area.
abbrev pub sum_refusal_at : PagesValue → Mta → ℕ → Option Code
sum_refusal_at p Nowhere n = sum_refusal p.layout.checksum false n
sum_refusal_at p (Memory a) n = checksum_refusal p a n
sum_refusal_at p (Text id place) n = sum_refusal p.layout.checksum false n

-- the checksum of the n bytes from an MTA on, which are numbers in the layout's byte order
abbrev pub sum_at : PagesValue → Mta → ℕ → ℕ
sum_at p mta n = summed p.layout.checksum p.layout.order (bytes_at p mta n)
