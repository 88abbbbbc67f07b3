use Rattle.std.proofs.Common.{◌≡◌, take}
use Rattle.xcp_daq.proofs.daq.same_modes.Given as goal

abbrev pub invariant-loop-i : goal.invariant-loop-i
invariant-loop-i l = take l.i l.ours ≡ take l.i l.theirs
