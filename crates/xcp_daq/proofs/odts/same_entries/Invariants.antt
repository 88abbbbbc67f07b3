use Rattle.std.proofs.Common.{◌≡◌, take}
use Rattle.xcp_daq.proofs.odts.same_entries.Given as goal

abbrev pub invariant-loop-i : goal.invariant-loop-i
invariant-loop-i l = take l.i l.ours ≡ take l.i l.theirs
