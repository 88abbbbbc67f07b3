use Rattle.xcp_service.proofs.CountLemmas.{IsCounting}
use Rattle.xcp_service.proofs.waiting.count_calls.Given as goal

abbrev pub invariant-loop-at : goal.invariant-loop-at
invariant-loop-at g l = IsCounting l.chapter.number l.chapter.entries l.entries l._at l.counts
