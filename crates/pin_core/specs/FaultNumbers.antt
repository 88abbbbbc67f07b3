-- The numbers of refused events.
use Rattle.std.specs.Prelude.{ℕ}
use Rattle.pin_core.specs.declared.events.StepError.{StepError}
use Rattle.pin_core.specs.declared.events.StepError.TheVariants as refusals

-- the number of a refusal
abbrev pub number_of : StepError → ℕ
number_of refusals.NotEnabled = 1
number_of refusals.Memory = 2
