-- The rows of the commands by which a tool writes.
use Rattle.std.specs.Prelude.{ℕ, ◌-◌, ◌*◌, ◌^◌, ◌%◌, true, not, ◌||◌, List, [], ◌∷◌, ◌++◌, length, take, Option, Some, None, nat_le, nat_lt, min, ◌==◌, if◌then◌else◌, bit_and, bit_xor}
use Rattle.std.specs.Int.{bit_not, w16, w32}
use Rattle.xcp_packet.specs.ByteOrder.{double_at, double_bytes}
use Rattle.xcp_packet.specs.declared.Reply.TheVariants.{Done, Error, ErrorCount}
use Rattle.xcp_packet.specs.declared.Code.TheVariants.{CmdSyntax, OutOfRange, Sequence}
use Rattle.xcp_memory.specs.Layout.{LayoutValue}
use Rattle.xcp_transfer.specs.declared.mta.Mta.{Mta}
use Rattle.xcp_transfer.specs.declared.mta.Mta.TheVariants.{Nowhere, Memory, Text}
use Rattle.xcp_transfer.specs.TransferValue.{TransferValue, BlockValue}
use Rattle.xcp_transfer.specs.MtaAccess.{bytes_at, write_refusal_at, written_at, moved}
use Rattle.xcp_packet.specs.Rows.{Row, refused}

-- MAX_BS: the greatest number of packets in a block.
-- (ASAM MCD-1 XCP, protocol layer, description of commands: GET_COMM_MODE_INFO.)
abbrev pub max_bs : ℕ
max_bs = 8

-- the most data bytes in a packet of DOWNLOAD and DOWNLOAD_NEXT
abbrev pub packet_room : LayoutValue → ℕ
packet_room l = l.max_cto - 2

-- the most bytes that a DOWNLOAD can announce
abbrev pub greatest_download : LayoutValue → ℕ
greatest_download l = min (max_bs * packet_room l) 255

-- after a write at an MTA, which then stands behind the bytes
abbrev pub downloaded : TransferValue → Mta → List ℕ → TransferValue
downloaded v mta bytes = record { pages = written_at v.pages mta bytes; mta = moved mta (length bytes); block = None }

-- the block that has these bytes and expects so many more; only an address has one
abbrev pub block_begun : Mta → ℕ → List ℕ → Option BlockValue
block_begun Nowhere expected bytes = None
block_begun (Memory a) expected bytes = Some (record { address = a; expected = expected; bytes = bytes })
block_begun (Text id place) expected bytes = None

-- DOWNLOAD of n bytes, 1 to 8 packets' and at most 255. What one packet can have is written at once, and the MTA
-- moves on by n. More begin a block: the first packet is full, nothing is sent, pages and MTA stay.
-- (ASAM MCD-1 XCP, protocol layer, description of commands: DOWNLOAD; master block transfer mode.)
abbrev pub download_row : ℕ → List ℕ → TransferValue → Row TransferValue
download_row n bytes v = record {
  refusals = (n == 0 || nat_lt (greatest_download v.pages.layout) n, Error OutOfRange)
      ∷ (nat_lt (length bytes) (min n (packet_room v.pages.layout)), Error CmdSyntax)
      ∷ refused (write_refusal_at v.pages v.mta n);
  reply = if nat_le n (packet_room v.pages.layout) then Some Done else None;
  after = if nat_le n (packet_room v.pages.layout)
      then downloaded v v.mta (take n bytes)
      else record v { block = block_begun v.mta (n - packet_room v.pages.layout) (take (packet_room v.pages.layout) bytes) };
}

-- a block with further bytes
abbrev pub block_with : BlockValue → List ℕ → BlockValue
block_with b bytes = record { address = b.address; expected = b.expected - length bytes; bytes = b.bytes ++ bytes }

-- DOWNLOAD_NEXT, whose `remaining` tells how many bytes are left, with its own. It is refused out of sequence: without
-- a block, or with another number than the expected one, which the error packet tells. Its bytes are added to the
-- block; with the last ones the whole block is written at once, and the MTA stands behind it.
-- (ASAM MCD-1 XCP, protocol layer, description of commands: DOWNLOAD_NEXT; master block transfer mode.)
abbrev pub next_row : Option BlockValue → ℕ → List ℕ → TransferValue → Row TransferValue
next_row None remaining bytes v = record {
  refusals = (true, ErrorCount Sequence 0) ∷ [];
  reply = None;
  after = v;
}
next_row (Some b) remaining bytes v = record {
  refusals = (not (remaining == b.expected), ErrorCount Sequence b.expected)
      ∷ (nat_lt (length bytes) (min remaining (packet_room v.pages.layout)), Error CmdSyntax)
      ∷ [];
  reply = if nat_le remaining (packet_room v.pages.layout) then Some Done else None;
  after = if nat_le remaining (packet_room v.pages.layout)
      then downloaded v (Memory b.address) (b.bytes ++ take remaining bytes)
      else record v { block = Some (block_with b (take (packet_room v.pages.layout) bytes)) };
}

abbrev pub download_next_row : ℕ → List ℕ → TransferValue → Row TransferValue
download_next_row remaining bytes v = next_row v.block remaining bytes v

-- DOWNLOAD_MAX writes MAX_CTO - 1 bytes and moves the MTA on by as many.
-- (ASAM MCD-1 XCP, protocol layer, description of commands: DOWNLOAD_MAX.)
abbrev pub download_max_row : List ℕ → TransferValue → Row TransferValue
download_max_row bytes v = record {
  refusals = (nat_lt (length bytes) (v.pages.layout.max_cto - 1), Error CmdSyntax)
      ∷ refused (write_refusal_at v.pages v.mta (v.pages.layout.max_cto - 1));
  reply = Some Done;
  after = downloaded v v.mta (take (v.pages.layout.max_cto - 1) bytes);
}

-- SHORT_DOWNLOAD writes n bytes, 1 to MAX_CTO - 8, at an address, and leaves the MTA behind them.
-- (ASAM MCD-1 XCP, protocol layer, description of commands: SHORT_DOWNLOAD.)
abbrev pub short_download_row : ℕ → ℕ → ℕ → List ℕ → TransferValue → Row TransferValue
short_download_row n extension address bytes v = record {
  refusals = (n == 0 || nat_lt (v.pages.layout.max_cto - 8) n, Error OutOfRange)
      ∷ (not (extension == 0), Error OutOfRange)
      ∷ (nat_lt (length bytes) n, Error CmdSyntax)
      ∷ refused (write_refusal_at v.pages (Memory address) n);
  reply = Some Done;
  after = downloaded v (Memory address) (take n bytes);
}

-- a double word shifted up by s bits; what goes past bit 31 falls out
abbrev pub shifted : ℕ → ℕ → ℕ
shifted s x = x * 2 ^ s % 2 ^ 32

-- A double word A after MODIFY_BITS: the bits that are 0 in the AND mask become 0, and then those that are 1 in the
-- XOR mask change, both masks shifted up by S: (A and not ((not MA) << S)) xor (MX << S).
abbrev pub modified : ℕ → ℕ → ℕ → ℕ → ℕ
modified s ma mx a = bit_xor (bit_and a (bit_not w32 (shifted s (bit_not w16 ma)))) (shifted s mx)

-- MODIFY_BITS changes bits of the double word at the MTA, in the layout's byte order. The MTA stays. The shift is 0 to 31.
-- (ASAM MCD-1 XCP, protocol layer, description of commands: MODIFY_BITS.)
abbrev pub modify_bits_row : ℕ → ℕ → ℕ → TransferValue → Row TransferValue
modify_bits_row s ma mx v = record {
  refusals = (nat_lt 31 s, Error OutOfRange) ∷ refused (write_refusal_at v.pages v.mta 4);
  reply = Some Done;
  after = record v {
    pages = written_at v.pages v.mta (double_bytes v.pages.layout.order (modified s ma mx (double_at v.pages.layout.order 0 (bytes_at v.pages v.mta 4))));
    block = None;
  };
}
