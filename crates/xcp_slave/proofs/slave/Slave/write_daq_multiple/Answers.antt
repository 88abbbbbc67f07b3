use Rattle.std.proofs.Common.{◌≡◌, ◌∙◌, ap, sym}
use Rattle.xcp_daq.specs.DaqLists.{DaqValue}
use Rattle.xcp_transfer.specs.TransferValue.{TransferValue}
use Rattle.xcp_slave.proofs.ListInvariantLemmas.{multiple-class}
use Rattle.xcp_slave.proofs.slave.Slave.write_daq_multiple.Goals as goal

pub invariant_of-self-in-Ok : goal.invariant_of-self-in-Ok
invariant_of-self-in-Ok c =
    let kept = sym (ap (λ (t : TransferValue). t.pages.layout.class) c.give_up_block.ensures) in
    (ap (λ (v : DaqValue). v.class) c.in-Ok.ensures.ok.1 ∙ multiple-class c.layout-layout.result.now c.args.bytes.now c.self.inside.daq ∙ c.self.invariant.0 ∙ kept, c.self.invariant.1 ∙ kept)
