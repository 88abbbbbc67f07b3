-- The numbers of a sender's errors.
use Rattle.std.specs.Prelude.{ℕ}
use Rattle.xcp_outlet.specs.declared.fault.SendError.{SendError}
use Rattle.xcp_outlet.specs.declared.fault.SendError.TheVariants as errors

abbrev pub number_of : SendError → ℕ
number_of (errors.Write n) = 1
number_of (errors.Cut n) = 2
