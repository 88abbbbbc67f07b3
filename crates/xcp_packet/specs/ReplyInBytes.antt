-- What stands in a packet that was lent.
use Rattle.std.specs.Prelude.{ℕ, List, [], ◌∷◌, Option, Some, None}
use Rattle.xcp_packet.specs.declared.order.Order.{Order}
use Rattle.xcp_packet.specs.declared.reply.Reply.{Reply}
use Rattle.xcp_packet.specs.declared.reply.Reply.TheVariants.{Bytes, Error, ErrorCount, ErrorBlockSize}
use Rattle.xcp_packet.specs.declared.lent.Sent.{Sent}
use Rattle.xcp_packet.specs.declared.lent.Sent.TheVariants.{Lent, Block, Nothing}
use Rattle.xcp_packet.specs.declared.lent.CommandError.{CommandError}
use Rattle.xcp_packet.specs.declared.lent.CommandError.TheVariants.{Code, Count, BlockSize}
use Rattle.xcp_packet.specs.ReplyPacket.{layout}
use Rattle.xcp_packet.specs.PacketTrains.{block_packets}

-- the error packet of a refusal
abbrev pub fault_reply : CommandError → Reply
fault_reply (Code code) = Error code
fault_reply (Count code count) = ErrorCount code count
fault_reply (BlockSize code size) = ErrorBlockSize code size

-- the packets that are sent, where the one that was lent has these bytes
abbrev pub sent_packets : Sent → List ℕ → Option (List (List ℕ))
sent_packets Lent bytes = Some (bytes ∷ [])
sent_packets (Block width) bytes = Some (block_packets width bytes)
sent_packets Nothing bytes = None

-- The packets of a reply, in this byte order, with at most `width` data bytes each: bytes that were read are as many packets
-- as they fill, and any other reply is one.
-- (ASAM MCD-1 XCP, protocol layer: slave block transfer mode.)
abbrev pub packets_of : Order → ℕ → Reply → List (List ℕ)
packets_of order width (Bytes bytes) = block_packets width bytes.items
packets_of order width reply = layout order reply ∷ []

-- those of the reply, if there is one
abbrev pub reply_packets : Order → ℕ → Option Reply → Option (List (List ℕ))
reply_packets order width None = None
reply_packets order width (Some reply) = Some (packets_of order width reply)

-- the reply tells no bytes that were read
abbrev pub TellsNoRead : Reply → Type 0
TellsNoRead (Bytes bytes) = ⊥
TellsNoRead reply = Unit {0}
