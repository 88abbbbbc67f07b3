-- What contracts see of a framer, and what a piece of the stream brings it (ASAM MCD-1 XCP, transport layer, XCP on
-- Ethernet: TCP gives a stream in pieces of any size).
use Rattle.std.specs.Prelude.{◌≡◌, ◌<◌, ◌≤◌, ◌++◌, ℕ, List, [], ◌∷◌, length, take}
use Rattle.arrayvec.specs.ArrayVec.{ArrayVec}
use Rattle.xcp_framing.specs.declared.framer.Got.{Got}
use Rattle.xcp_framing.specs.declared.framer.Got.TheVariants as gots
use Rattle.xcp_framing.specs.declared.framer.Brought.{Brought}
use Rattle.xcp_framing.specs.declared.framer.Brought.TheVariants as broughts
use Rattle.xcp_framing.specs.Wire.{IsBadLength}
use Rattle.xcp_framing.specs.Frames.{frames, rest}

-- a framer: MAX_CTO, and the bytes that it holds, which stand behind the last whole frame
pub record FramerValue : Type 0 where
  pub max_cto : ℕ
  pub held : List ℕ

-- the packet that was given, if any
abbrev pub packets_given : Got → List (List ℕ)
packets_given (gots.Packet packet) = packet.items ∷ []
packets_given _ = []

-- what was brought, where this is the packet that was lent
abbrev pub got_in : Brought → ArrayVec ℕ → Got
got_in broughts.More packet = gots.More
got_in broughts.Packet packet = gots.Packet packet
got_in (broughts.BadLength n) packet = gots.BadLength n

-- no packet is whole yet, and no LEN is above m
pub record BringsNone (m : ℕ) (stream : List ℕ) : Type 0 where
  pub no_packet : frames m stream ≡ []
  pub no_fault : ¬ IsBadLength m (rest m stream)

-- The front of `used` bytes of a piece, behind the bytes held, brings these packets and leaves
-- `left` to be held; no shorter front brings a packet, or a LEN above m.
pub record Feeds (m : ℕ) (held piece : List ℕ) (used : ℕ) (packets : List (List ℕ)) (left : List ℕ) : Type 0 where
  pub front : used ≤ length piece
  pub brings : frames m (held ++ take used piece) ≡ packets
  pub leaves : left ≡ rest m (held ++ take used piece)
  pub first : (k : ℕ) → k < used → BringsNone m (held ++ take k piece)
