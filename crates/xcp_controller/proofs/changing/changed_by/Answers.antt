use Rattle.std.proofs.Common.{ap, ◌∙◌}
use Rattle.xcp_transfer.specs.TransferValue.{TransferValue}
use Rattle.xcp_slave.specs.declared.Request.TheVariants as requests
use Rattle.xcp_controller.proofs.ChangedImageLemmas.{image-within, packet-from, packet-nowhere, packet-up-to}
use Rattle.xcp_controller.proofs.KeptImageLemmas.{reading_keeps}
use Rattle.xcp_controller.proofs.changing.changed_by.Goals as goal

pub returns-then-is_reading-clause-outside : goal.returns-then-is_reading-clause-outside
returns-then-is_reading-clause-outside c before answer lawful step =
    image-within before c.args.slave.now 0 0 (reading_keeps (requests.Command (record { items = c.args.packet.now })) (c.is_reading.ensures c.if-is_reading.true) before answer c.args.slave.now step)

pub returns-in_default-mta-clause-outside : goal.returns-in_default-mta-clause-outside
returns-in_default-mta-clause-outside c before answer lawful step =
    packet-nowhere before c.args.packet.now answer c.args.slave.now c.mta.result lawful c.if-code.false c.if-code-2.false step (c.mta.ensures ∙ ap (λ (t : TransferValue). t.mta) c.transfer.ensures) c.in_default-mta.not-Memory

pub returns-then-code-3-clause-outside : goal.returns-then-code-3-clause-outside
returns-then-code-3-clause-outside c before answer lawful step =
    packet-from before c.args.packet.now answer c.args.slave.now c.mta.result c.layout.result.now c.in-Memory.address c.places_from.result.0 c.places_from.result.1 lawful c.if-code.false c.if-code-2.false c.if-code-3.true step (c.mta.ensures ∙ ap (λ (t : TransferValue). t.mta) c.transfer.ensures) c.in-Memory.is c.layout.ensures c.places_from.ensures.within

pub returns-else-code-3-clause-outside : goal.returns-else-code-3-clause-outside
returns-else-code-3-clause-outside c before answer lawful step =
    packet-up-to before c.args.packet.now answer c.args.slave.now c.mta.result c.layout-else-code-3.result.now c.in-Memory.address c.places_up_to.result.0 c.places_up_to.result.1 lawful c.if-code.false c.if-code-2.false c.if-code-3.false step (c.mta.ensures ∙ ap (λ (t : TransferValue). t.mta) c.transfer.ensures) c.in-Memory.is c.layout-else-code-3.ensures c.places_up_to.ensures.within
