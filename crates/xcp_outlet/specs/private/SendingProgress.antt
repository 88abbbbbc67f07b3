-- What the sender has in hand between two packets.
use Rattle.std.specs.Prelude.{◌≡◌, ◌%◌, ◌^◌, ℕ, Bool, true, false, List, [], ◌++◌, length, Option}
use Rattle.std.specs.Io.KnownBytes.{Appends}
use Rattle.xcp_framing.specs.Wire.{wire, wire_from}
use Rattle.xcp_outlet.specs.declared.message.Message.{Message}
use Rattle.xcp_outlet.specs.declared.line.Line.{Line}
use Rattle.xcp_outlet.specs.ChannelRule.{of}
use Rattle.xcp_framing.specs.CountedCalls.{Watched}
use Rattle.xcp_outlet.specs.OutletEnds.{Taking, all_packets, has_mark}
use Rattle.xcp_outlet.specs.Sending.{WritesPart}

-- The first packets are written, and the frames of the others are held to be written together.
pub record HoldsFrames (flushed sent : ℕ) (held : List ℕ) (packets : List (List ℕ)) (before after : Option (List ℕ)) (old new : ℕ) : Type 0 where
  pub whole : List (List ℕ)
  pub later : List (List ℕ)
  pub all : packets ≡ whole ++ later
  pub count : flushed ≡ length whole % 2 ^ 64
  pub total : sent ≡ length packets % 2 ^ 64
  pub writes : Appends before after (wire whole)
  pub held_is : held ≡ wire_from (length whole) later
  pub unfailed : new ≡ old

-- while it takes: all is written or held, or a write has failed
abbrev pub Wrote : Bool → ℕ → ℕ → List ℕ → List (List ℕ) → Option (List ℕ) → Option (List ℕ) → ℕ → ℕ → Type 0
Wrote false flushed sent held packets before after old new = HoldsFrames flushed sent held packets before after old new
Wrote true flushed sent held packets before after old new = WritesPart flushed packets before after old new

pub record Progress (line : Line) (taken : List Message) (before after : Option (List ℕ)) (old new : ℕ) : Type 0 where
  pub wrote : Wrote line.broken line.flushed line.frames.sent line.frames.held (all_packets taken) before after old new
  pub reply_mark : line.replies_ended ≡ has_mark (of false taken)
  pub data_mark : line.data_ended ≡ has_mark (of true taken)

-- a dispatch as contracts see it: what it has taken, how far the sending is, and the writer
pub record DispatchValue (W : Type 0) : Type 0 where
  pub place : ℕ
  pub intake : Taking
  pub line : Line
  pub writer : Watched W

-- where no write has failed, the packets that were taken are all written, and no frame waits to be
abbrev pub NoneInHand : Line → List Message → Type 0
NoneInHand line taken = line.broken ≡ false → (line.frames.held ≡ []) × (line.flushed ≡ length (all_packets taken) % 2 ^ 64)
