use Rattle.std.proofs.Common.{sym, subst}
use Rattle.xcp_slave.specs.AskedRequest.{request_asked}
use Rattle.xcp_slave.specs.declared.asked.Asked.{Asked}
use Rattle.xcp_slave.specs.declared.Request.TheVariants as requests
use Rattle.xcp_controller.specs.KeptImages.{KeepsImage}
use Rattle.xcp_controller.proofs.KeptImageLemmas.{reading_keeps}
use Rattle.xcp_controller.proofs.keeping.keeps_image.Goals as goal

pub returns-in-Command : goal.returns-in-Command
returns-in-Command c reads =
    subst (λ (asked : Asked). KeepsImage (request_asked asked)) (sym c.in-Command.is)
    (reading_keeps (requests.Command (record { items = c.in-Command.packet.now })) (c.is_reading.ensures reads))
