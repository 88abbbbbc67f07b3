use Rattle.std.proofs.Common.{length}
use Rattle.xcp_record.specs.private.Calls.{Walks}
use Rattle.xcp_record.proofs.chapter.count_calls.Given as goal

abbrev pub invariant-loop-left : goal.invariant-loop-left
invariant-loop-left l = Walks l.bytes l.left l.count

abbrev pub decreases-loop-left : goal.decreases-loop-left
decreases-loop-left l = length l.left
