use Rattle.xcp_service.proofs.SheafLemmas.{IsSeen}
use Rattle.xcp_service.proofs.waiting.check_sheaf.Given as goal

abbrev pub invariant-loop-k : goal.invariant-loop-k
invariant-loop-k g l = IsSeen l.sheaf l.waiting l.k l.settled
