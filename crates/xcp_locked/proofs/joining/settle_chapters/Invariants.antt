use Rattle.xcp_locked.specs.Chapters.{AreAllSettled}
use Rattle.xcp_locked.proofs.joining.settle_chapters.Given as goal

abbrev pub invariant-loop-k : goal.invariant-loop-k
invariant-loop-k g l = AreAllSettled l.k l.chapters l.callers
