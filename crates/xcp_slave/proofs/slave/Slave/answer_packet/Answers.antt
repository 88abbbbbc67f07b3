use Rattle.std.proofs.Common.{◌≡◌, ◌∙◌, Bool, sym}
use Rattle.xcp_slave.specs.AnswerInBytes.{answer_in}
use Rattle.xcp_slave.proofs.PacketExecutionLemmas.{answered, unheeded}
use Rattle.xcp_slave.proofs.slave.Slave.answer_packet.Goals as goal

pub returns-then-not-heeds : goal.returns-then-not-heeds
returns-then-not-heeds c = unheeded c.args.self.now c.args.bytes.now (sym c.heeds.ensures.value ∙ c.if-not-heeds.true)

pub returns : goal.returns
returns c =
    answered c.args.self.now c.execute-outcome.new.self c.args.bytes.now (answer_in c.of.result c.of.new.packet) c.execute-outcome.result c.execute-outcome.new.packet.items
    (sym c.heeds.ensures.value ∙ c.if-not-heeds.false) c.execute-outcome.ensures (rw c.order-order.ensures at c.of.ensures)
