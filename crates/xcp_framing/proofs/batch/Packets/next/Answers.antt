use Rattle.std.proofs.Common.{suc, arith}
use Rattle.xcp_framing.proofs.batch.Packets.next.Goals as goal

pub invariant_of-self-2 : goal.invariant_of-self-2
invariant_of-self-2 c = λ k d inside. (rw (c.in-Some.ensures) at c.self.invariant) (suc k) d (omega (arith, inside))
