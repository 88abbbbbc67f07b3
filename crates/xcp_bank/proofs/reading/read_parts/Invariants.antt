use Rattle.std.proofs.Common.{◌-◌}
use Rattle.xcp_bank.specs.private.SeatSteps.{ReadsOn}
use Rattle.xcp_bank.proofs.reading.read_parts.Given as goal

abbrev pub invariant-loop-k : goal.invariant-loop-k
invariant-loop-k l = ReadsOn l.board l.buffer l.at l.from (l.k - l.from) l.fn.token l.token l.fn.out l.out
