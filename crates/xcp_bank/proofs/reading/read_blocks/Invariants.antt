use Rattle.std.proofs.Common.{◌*◌}
use Rattle.xcp_bank.specs.private.SeatSteps.{ReadsOn}
use Rattle.xcp_bank.proofs.reading.read_blocks.Given as goal

abbrev pub invariant-loop-i : goal.invariant-loop-i
invariant-loop-i l = ReadsOn l.board l.buffer l.at l.from (51 * l.i) l.fn.token l.token l.fn.out l.out
