use Rattle.std.proofs.Common.{take, ◌∙◌, ap, arith}
use Rattle.std.proofs.lemmas.List.{take_all}
use Rattle.xcp_memory.specs.EcuImage.{ecu_image, image_size}
use Rattle.xcp_memory.proofs.EcuImageLemmas.{length-ecu_image}
use Rattle.xcp_memory.proofs.pages.Pages.ecu_image.Goals as goal

pub returns : goal.returns
returns c =
    let v = c.args.self.now in
    let long = length-ecu_image v c.known.ensures.layout c.known.ensures.pages in
    c.ecu_image_part.ensures.bytes ∙ ap (λ n. take n (ecu_image v)) c.requires ∙ take_all (image_size v.layout) (ecu_image v) (omega (arith, long))
