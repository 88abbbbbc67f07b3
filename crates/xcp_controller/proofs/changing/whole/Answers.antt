use Rattle.std.proofs.Common.{◌∙◌, ap, sym}
use Rattle.xcp_memory.specs.EcuImage.{image_size}
use Rattle.xcp_controller.specs.ControllerValue.{image_of}
use Rattle.xcp_controller.proofs.ChangedImageLemmas.{all-within, image-long}
use Rattle.xcp_controller.proofs.changing.whole.Goals as goal

pub returns-clause-outside : goal.returns-clause-outside
returns-clause-outside c before = all-within before (image_of c.args.slave.now) c.image_size.result (image-long c.args.slave.now c.known.ensures.transfer ∙ sym (c.image_size.ensures.value ∙ ap image_size c.layout.ensures))
