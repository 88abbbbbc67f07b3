use Rattle.std.proofs.Common.{length}
use Rattle.xcp_outlet.proofs.SendingLemmas.{Begun}
use Rattle.xcp_outlet.proofs.line.Line.add_batch.Given as goal

abbrev pub invariant-packets : goal.invariant-packets
invariant-packets g l = Begun l.batch l.packets l.fn.self l.self (g.W.Write.contents l.fn.writer.inner) (g.W.Write.contents l.writer.inner) l.fn.writer.failures l.writer.failures

abbrev pub decreases-packets : goal.decreases-packets
decreases-packets g l = length l.packets
