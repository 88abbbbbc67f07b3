-- Commands that a connected slave is asked, and answers that accept them.
use Rattle.std.specs.Prelude.{◌≡◌, ℕ, true, List, ◌∷◌, ◌⊎◌}
use Rattle.arrayvec.specs.ArrayVec.{ArrayVec}
use Rattle.xcp_packet.specs.CommandSpelling.{spells}
use Rattle.xcp_packet.specs.declared.Command.{Command}
use Rattle.xcp_slave.specs.Outcomes.{Answer}
use Rattle.xcp_slave.specs.SlaveValue.{SlaveValue, layout_of}
use Rattle.xcp_slave.specs.Step.{Answers}
use Rattle.xcp_slave.specs.declared.Outcome.TheVariants as answers
use Rattle.xcp_slave.specs.declared.Request.TheVariants as requests

-- The slave v, to which a tool is connected, is asked this command by a packet that spells it, answers a, and is then w.
pub record IsAsked (v : SlaveValue) (c : Command) (a : Answer) (w : SlaveValue) : Type 0 where
  pub connected : v.connected ≡ true
  pub packet : ArrayVec ℕ
  pub spelt : spells (layout_of v).order c packet.items
  pub answered : Answers v (requests.Command packet) a w

-- A positive response: FF stands first in it.
-- (ASAM MCD-1 XCP, protocol layer: positive response packet, RES.)
pub record IsPositive (a : Answer) : Type 0 where
  pub first : List ℕ
  pub more : List (List ℕ)
  pub begins : a ≡ answers.Packets ((0xFF ∷ first) ∷ more)

-- A command is done: a positive response tells so, or nothing is told, where a block of DOWNLOAD begins or goes on.
-- (ASAM MCD-1 XCP, protocol layer: master block transfer mode.)
abbrev pub IsTaken : Answer → Type 0
IsTaken a = IsPositive a ⊎ (a ≡ answers.Silent)

-- The modes of SET_CAL_PAGE: bit 0, the controller gets the page, bit 1, the tool does, one of them or both; with bit 7 in
-- all segments. No other bit has a meaning.
-- (ASAM MCD-1 XCP, protocol layer, description of commands: SET_CAL_PAGE.)
abbrev pub IsSwitchMode : ℕ → Type 0
IsSwitchMode mode = (mode ≡ 0x01) ⊎ (mode ≡ 0x02) ⊎ (mode ≡ 0x03) ⊎ (mode ≡ 0x81) ⊎ (mode ≡ 0x82) ⊎ (mode ≡ 0x83)
