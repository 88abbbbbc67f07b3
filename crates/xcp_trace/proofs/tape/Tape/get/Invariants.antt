use Rattle.std.proofs.Common.{◌≡◌, drop}
use Rattle.xcp_trace.proofs.tape.Tape.get.Given as goal

abbrev pub invariant-loop-passed : goal.invariant-loop-passed
invariant-loop-passed l = l.strings ≡ drop l._passed l.self.strings
