-- Answers that have nothing of what only some slaves have.
use Rattle.std.specs.Prelude.{◌≡◌, ◌≢◌, ◌⊎◌, ◌≤◌, ℕ, List, [], ◌∷◌, length, slice_index}
use Rattle.xcp_packet.specs.ByteOrder.{double_bytes}
use Rattle.xcp_packet.specs.declared.Order.{Order}
use Rattle.xcp_slave.specs.Outcomes.{Answer}
use Rattle.xcp_slave.specs.declared.Outcome.TheVariants as answers
use Rattle.xcp_slave.specs.declared.Request.{Request}
use Rattle.xcp_slave.specs.declared.Request.TheVariants as requests

-- Nothing, or the packet FE 20 alone: so a command is answered that the slave doesn't know, before a CONNECT and after it.
-- (ASAM MCD-1 XCP, protocol layer: table of error codes, ERR_CMD_UNKNOWN.)
abbrev pub IsUnknown : Answer → Type 0
IsUnknown a = (a ≡ answers.Silent) ⊎ (a ≡ answers.Packets ((0xFE ∷ 0x20 ∷ []) ∷ []))

-- Nothing, or a positive response alone that tells length 0, behind a mode of 0 and a reserved word: so a text is asked for
-- that isn't there.
-- (ASAM MCD-1 XCP, protocol layer, description of commands: GET_ID.)
abbrev pub IsNoText : Order → Answer → Type 0
IsNoText order a = (a ≡ answers.Silent) ⊎ (a ≡ answers.Packets ((0xFF ∷ 0x00 ∷ 0x00 ∷ 0x00 ∷ double_bytes order 0) ∷ []))

-- A packet of these bytes is answered so: one that begins with C0 (GET_VERSION) or C7 (WRITE_DAQ_MULTIPLE) is unknown,
-- whatever stands behind it, and one that begins with FA (GET_ID) and a kind other than 0 asks for no text.
pub record HasPlainAnswer (order : Order) (p : List ℕ) (a : Answer) : Type 0 where
  pub version : slice_index p 0 ≡ 0xC0 → IsUnknown a
  pub multiple : slice_index p 0 ≡ 0xC7 → IsUnknown a
  pub id : 2 ≤ length p → slice_index p 0 ≡ 0xFA → slice_index p 1 ≢ 0 → IsNoText order a

-- The answer to the request has nothing of what only some slaves have. No drain takes the packet FD 06.
-- (ASAM MCD-1 XCP, protocol layer, event packets: EV_DAQ_OVERLOAD.)
abbrev pub HasNothingNew : Order → Request → Answer → Type 0
HasNothingNew order (requests.Command packet) a = HasPlainAnswer order packet.items a
HasNothingNew order requests.Drain a = a ≢ answers.Packets ((0xFD ∷ 0x06 ∷ []) ∷ [])
HasNothingNew order _ a = Unit {0}
