-- What was written of what the parts of a connection put.
use Rattle.std.specs.Prelude.{◌≡◌, ℕ, Bool, true, List, Option}
use mathlib.Core.List.{IsPrefix}
use Rattle.xcp_framing.specs.CountedCalls.{Watched}
use Rattle.xcp_outlet.specs.OutletEnds.{Outlet, has_mark, packets}
use Rattle.xcp_outlet.specs.ChannelRule.{of}
use Rattle.xcp_outlet.specs.Sending.{SendsMessages}
use Rattle.xcp_outlet.specs.declared.message.Message.{Message}
use Rattle.xcp_connection.specs.declared.sending.Wrote.{Wrote}

-- What was taken of an end is, in order, a front of what that end has put, and behind its end mark all of it.
pub record Delivered (side : Bool) (taken : List Message) (put : List (List ℕ)) : Type 0 where
  pub begins : IsPrefix (packets (of side taken)) put
  pub all : has_mark (of side taken) ≡ true → packets (of side taken) ≡ put

-- of writers whose bytes a contract can see
module _ {O : Type 0} (contents : O → Option (List ℕ)) where
  -- What was taken of this outlet, and what was written of it by a writer that contained this before, and had failed so often.
  pub record WroteAs (outlet : Outlet) (before : Option (List ℕ)) (failures : ℕ) (d : Wrote O) : Type 0 where
    pub same : d.sent.took.outlet ≡ outlet
    pub sends : SendsMessages d.sent.count d.sent.took.taken before (contents d.writer.value.inner) failures d.writer.value.failures

  -- the same of this writer
  abbrev pub WroteFor : Outlet → Watched O → Wrote O → Type 0
  WroteFor outlet writer d = WroteAs outlet (contents writer.inner) writer.failures d
