use Rattle.xcp_locked.proofs.JoiningLemmas.{AreFirst}
use Rattle.xcp_locked.proofs.joining.check_joined.Given as goal

abbrev pub invariant-loop-k : goal.invariant-loop-k
invariant-loop-k g l = AreFirst g.N.Name.layout l.chapters l.k l.calls
