-- What a pass of the outlet knows.
use Rattle.std.specs.Prelude.{ℕ, Bool, true, false, List, Option}
use Rattle.xcp_outlet.specs.declared.message.Message.{Message}

-- what one end has put: its packets, and whether its end mark followed
pub record Half : Type 0 where
  pub put : List (List ℕ)
  pub ended : Bool

-- what the reply end has put, what the data end has put, and what was taken, for which a pass stands
pub record PassKnown : Type 0 where
  pub reply : Option Half
  pub daq : Option Half
  pub taken : Option (List Message)

abbrev pub half : List (List ℕ) → Bool → Half
half ps b = record { put = ps; ended = b }

-- the half of the side: the data end's at true
abbrev pub half_of : Bool → PassKnown → Option Half
half_of false v = v.reply
half_of true v = v.daq
