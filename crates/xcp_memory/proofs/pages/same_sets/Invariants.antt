use Rattle.std.proofs.Common.{◌≡◌, take}
use Rattle.xcp_memory.proofs.pages.same_sets.Given as goal

abbrev pub invariant-loop-i : goal.invariant-loop-i
invariant-loop-i l = take l.i l.ours ≡ take l.i l.others
