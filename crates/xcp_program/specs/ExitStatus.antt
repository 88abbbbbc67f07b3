-- The status with which the program ends after a fault.
use Rattle.std.specs.Prelude.{ℕ}
use Rattle.xcp_program.specs.declared.fault.Fault.{Fault}
use Rattle.xcp_program.specs.declared.fault.Fault.TheVariants.{Configuration, Line, Stream, Memory, MismatchedChapter, Mismatch, MismatchedCall, Journal, Flash, Clock}

abbrev pub exit_status : Fault → ℕ
exit_status (Configuration n) = 1
exit_status (Line n) = 2
exit_status (Stream n) = 3
exit_status Memory = 4
exit_status (MismatchedChapter number) = 5
exit_status (Mismatch caller at) = 5
exit_status (MismatchedCall at) = 5
exit_status (Journal n) = 6
exit_status (Flash n) = 6
exit_status Clock = 1
