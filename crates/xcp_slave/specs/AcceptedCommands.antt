-- Commands that a slave accepts.
use Rattle.std.specs.Prelude.{◌≡◌, ℕ, ◌+◌, ◌-◌, ◌*◌, ◌/◌, ◌<◌, List, ◌∷◌, ◌⊎◌, Some, bit_and, drop, length, slice_get, take}
use Rattle.std.specs.List.{flat_map}
use Rattle.arrayvec.specs.ArrayVec.{ArrayVec}
use Rattle.xcp_packet.specs.CommandSpelling.{spells}
use Rattle.xcp_packet.specs.PacketTrains.{block_packets}
use Rattle.xcp_transfer.specs.TransferValue.{response_room}
use Rattle.xcp_packet.specs.declared.Command.{Command}
use Rattle.xcp_slave.specs.declared.request.Request.TheVariants as requests
use Rattle.xcp_slave.specs.declared.outcome.Outcome.TheVariants as answers
use Rattle.xcp_slave.specs.SlaveValue.{SlaveValue, layout_of}
use Rattle.xcp_slave.specs.Step.{Answers}

-- The slave v accepts a command: a packet that spells it is answered by positive responses, FF and these bytes, as many
-- packets as they fill, and the slave is then w.
-- (ASAM MCD-1 XCP, protocol layer: positive response packet, RES.)
pub record Accepts (v : SlaveValue) (c : Command) (bytes : List ℕ) (w : SlaveValue) : Type 0 where
  pub packet : ArrayVec ℕ
  pub spelt : spells (layout_of v).order c packet.items
  pub answered : Answers v (requests.Command packet) (answers.Packets (block_packets (response_room (layout_of v)) bytes)) w

-- SET_CAL_PAGE of this mode and segment concerns segment i: bit 7 is set, or it is the segment that is named
-- (ASAM MCD-1 XCP, protocol layer, description of commands: SET_CAL_PAGE.)
abbrev pub Concerns : ℕ → ℕ → ℕ → Type 0
Concerns mode segment i = (bit_and mode 0x80 ≡ 0x80) ⊎ (i ≡ segment)

-- These packets are positive responses of the bytes, as many as they fill where each holds `room` of them: packet i is FF and
-- the bytes from place i * room on, `room` of them, and in the last one the rest.
-- (ASAM MCD-1 XCP, protocol layer: slave block transfer mode.)
pub record IsCut (room : ℕ) (bytes : List ℕ) (packets : List (List ℕ)) : Type 0 where
  pub count : length packets ≡ (length bytes + (room - 1)) / room
  pub each : (i : ℕ) → i < length packets → slice_get packets i ≡ Some (0xFF ∷ take room (drop (i * room) bytes))
  pub joined : flat_map (λ p. drop 1 p) packets ≡ bytes
