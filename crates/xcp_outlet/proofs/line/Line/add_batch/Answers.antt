use Rattle.xcp_outlet.proofs.SendingLemmas.{batch_begun, batch_more, batch_all}
use Rattle.xcp_outlet.proofs.line.Line.add_batch.Goals as goal

pub packets-init : goal.packets-init
packets-init g c = rw (c.packets-packets.ensures) (batch_begun _ _ _ _)

pub returns-in_default : goal.returns-in_default
returns-in_default g c before failures taken from p = batch_all c.packets.invariant c.in_default.ensures.0 before failures taken from p

pub packets-preserved : goal.packets-preserved
packets-preserved g c = batch_more c.in-Some.packet.now c.next.new.self c.packets.invariant c.in-Some.ensures.0 c.add_packet.ensures
