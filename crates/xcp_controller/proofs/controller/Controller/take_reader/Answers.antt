use Rattle.std.proofs.Common.{◌≡◌, subst}
use Rattle.std.specs.Prelude.{IfSome}
use Rattle.xcp_bank.specs.BankId.{image_bytes}
use Rattle.xcp_memory.specs.EcuImage.{image_size}
use Rattle.xcp_slave.specs.SlaveValue.{layout_of}
use Rattle.xcp_controller.specs.ControllerValue.{ControllerValue, ReadsImages}
use Rattle.xcp_controller.proofs.SpareLemmas.{all_parts}
use Rattle.xcp_controller.proofs.controller.Controller.take_reader.Goals as goal

pub invariant_of-self : goal.invariant_of-self
invariant_of-self c =
    let was = c.self.invariant in
    let size = image_size (layout_of c.self.inside.slave.value) in
    (was.0, was.1, was.2, was.3, (all_parts (ReadsImages size) (λ b. b.value) c.self.inside.spare.items c.pop.new.self.items c.pop.result c.pop.ensures.items was.4).0)

pub returns-clause-size : goal.returns-clause-size
returns-clause-size c =
    let size = image_size (layout_of c.self.inside.slave.value) in
    subst (λ (v : ControllerValue). IfSome c.pop.result (λ r. image_bytes r.value.bank ≡ image_size (layout_of v.slave))) c.self.view_is
    (all_parts (ReadsImages size) (λ b. b.value) c.self.inside.spare.items c.pop.new.self.items c.pop.result c.pop.ensures.items c.self.invariant.4).1
