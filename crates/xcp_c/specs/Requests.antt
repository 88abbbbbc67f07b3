-- What a request does with the slave behind a handle, and what is asked of it.
use Rattle.std.specs.Prelude.{◌≡◌, ℕ, List, length, Option, Some}
use Rattle.arrayvec.specs.ArrayVec.{ArrayVec}
use Rattle.xcp_bank.specs.BankEnds.{HeldDoes}
use Rattle.xcp_controller.specs.ControllerValue.{Publishes}
use Rattle.xcp_slave.specs.Step.{Answers}
use Rattle.xcp_slave.specs.Outcomes.{Answer}
use Rattle.xcp_slave.specs.declared.request.Request.{Request}
use Rattle.xcp_slave.specs.declared.request.Request.TheVariants as requests
use Rattle.xcp_c.specs.Answered.{IsAnswerInC}
use Rattle.xcp_c.specs.OpenValue.{OpenValue}
use Rattle.xcp_c.specs.declared.answer.XcpAnswer.{XcpAnswer}

-- The slave behind the handle executed this request, published its image where it is another one, and this is told; no reader
-- was taken.
pub record Submitted (q : Request) (old : Option OpenValue) (told : XcpAnswer) (new : Option OpenValue) : Type 0 where
  pub before : OpenValue
  pub after : OpenValue
  pub answer : Answer
  pub was : old ≡ Some before
  pub is : new ≡ Some after
  pub answers : Answers before.controller.slave q answer after.controller.slave
  pub published : Publishes before.controller after.controller
  pub spare : after.controller.spare ≡ before.controller.spare
  pub digest : after.digest ≡ before.digest
  pub tells : IsAnswerInC answer told

-- the same of a command packet of these bytes
abbrev pub Commanded : List ℕ → Option OpenValue → XcpAnswer → Option OpenValue → Type 0
Commanded bytes old told new = (packet : ArrayVec ℕ) × (packet.items ≡ bytes) × Submitted (requests.Command packet) old told new

-- the same of an event of this channel with these signals
abbrev pub Fired : ℕ → List ℕ → Option OpenValue → XcpAnswer → Option OpenValue → Type 0
Fired channel bytes old told new = (signals : ArrayVec ℕ) × (signals.items ≡ bytes) × Submitted (requests.Event channel signals) old told new

-- the same of signals that are handed over by themselves, these bytes from this place on
abbrev pub Handed : ℕ → List ℕ → Option OpenValue → XcpAnswer → Option OpenValue → Type 0
Handed place bytes old told new = (signals : ArrayVec ℕ) × (signals.items ≡ bytes) × Submitted (requests.Signals place signals) old told new

-- So many buffers of the bank beside the current one are held; nothing else changes but the history of the writer's looks.
pub record CountsHeld (n : ℕ) (old new : Option OpenValue) : Type 0 where
  pub before : OpenValue
  pub after : OpenValue
  pub was : old ≡ Some before
  pub is : new ≡ Some after
  pub does : HeldDoes n before.controller.writer after.controller.writer
  pub same : (after.controller.slave ≡ before.controller.slave) × (after.controller.spare ≡ before.controller.spare) × (after.digest ≡ before.digest)
