-- What the end that takes has done with the packets that it took.
use Rattle.std.specs.Prelude.{◌≡◌, ◌+◌, ◌%◌, ◌^◌, ℕ, true, false, List, ◌++◌, length, Option, Result, Ok, Err}
use Rattle.std.specs.Io.KnownBytes.{Appends}
use mathlib.Core.List.{IsPrefix}
use Rattle.xcp_framing.specs.Wire.{wire, wire_from}
use Rattle.xcp_outlet.specs.declared.message.Message.{Message}
use Rattle.xcp_outlet.specs.declared.fault.SendError.{SendError}
use Rattle.xcp_outlet.specs.declared.fault.SendError.TheVariants as errors
use Rattle.xcp_outlet.specs.ChannelRule.{of}
use Rattle.xcp_outlet.specs.OutletEnds.{all_packets, has_mark}

-- All n packets are written, in frames: `before` and `after` are the writer's bytes, `old` and `new` its failed calls.
pub record WritesAll (n : ℕ) (packets : List (List ℕ)) (before after : Option (List ℕ)) (old new : ℕ) : Type 0 where
  pub count : n ≡ length packets % 2 ^ 64
  pub writes : Appends before after (wire packets)
  pub unfailed : new ≡ old

-- One write failed. The first n packets are written whole, and of what follows a front.
pub record WritesPart (n : ℕ) (packets : List (List ℕ)) (before after : Option (List ℕ)) (old new : ℕ) : Type 0 where
  pub whole : List (List ℕ)
  pub later : List (List ℕ)
  pub all : packets ≡ whole ++ later
  pub count : n ≡ length whole % 2 ^ 64
  pub part : List ℕ
  pub writes : Appends before after (wire whole ++ part)
  pub front : IsPrefix part (wire_from (length whole) later)
  pub failed : new ≡ old + 1

-- both ends' end marks are among the messages
abbrev pub BothEnded : List Message → Type 0
BothEnded taken = (has_mark (of false taken) ≡ true) × (has_mark (of true taken) ≡ true)

-- what the end that takes says of the messages that it took
abbrev pub SendsMessages : Result ℕ SendError → List Message → Option (List ℕ) → Option (List ℕ) → ℕ → ℕ → Type 0
SendsMessages (Ok n) taken before after old new = WritesAll n (all_packets taken) before after old new × BothEnded taken
SendsMessages (Err (errors.Write n)) taken before after old new = WritesPart n (all_packets taken) before after old new
SendsMessages (Err (errors.Cut n)) taken before after old new = WritesAll n (all_packets taken) before after old new × ¬ BothEnded taken
