use Rattle.std.proofs.Common.{◌≡◌, ◌≤◌, ap, subst, Some, None, IfOk, false}
use Rattle.std.specs.Prelude.{Option}
use Rattle.xcp_daq.specs.declared.pointer.Pointer.{Pointer}
use Rattle.xcp_daq.specs.DaqLists.{DaqValue, list_at}
use Rattle.xcp_daq.specs.Configuring.{write_daq_refusal}
use Rattle.xcp_daq.proofs.daq.Daq.check_write_daq.Goals as goal

pub returns-clause-ok : goal.returns-clause-ok
returns-clause-ok c =
    let d = c.args.self.now in
    subst
    (λ (q : Option Pointer). IfOk c.check_at.result (λ p. (write_daq_refusal c.args.layout.now c.args.offset c.args.size c.args.extension c.args.address (record d { pointer = q }) ≡ None) × (q ≡ Some p) × ((list_at d p.list).running ≡ false) × (1 ≤ c.args.size) × (c.args.size ≤ 254)))
    (ap (λ (v : DaqValue). v.pointer) c.self.view_is)
    c.check_at.ensures.ok
