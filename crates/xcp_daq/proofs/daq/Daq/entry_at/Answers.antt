use Rattle.std.proofs.Common.{length, get_or, ap, sym, ◌∙◌, arith, [], List, None}
use Rattle.std.specs.Prelude.{Option}
use Rattle.xcp_daq.specs.declared.element.Element.{Element}
use Rattle.xcp_daq.specs.declared.pointer.Pointer.{Pointer}
use Rattle.xcp_daq.specs.Configuring.{entry_by}
use Rattle.xcp_daq.proofs.DaqListLemmas.{count_of, odts_at_is}
use Rattle.xcp_daq.proofs.DaqInvariantLemmas.{pointer_in}
use Rattle.xcp_daq.proofs.daq.Daq.entry_at.Goals as goal

pub entry-requires-clause-list : goal.entry-requires-clause-list
entry-requires-clause-list c = omega (arith, (pointer_in _ c.args.pointer c.known.ensures c.requires).list, count_of _ _ _ _ _ _ c.self.view_is c.self.invariant.same, c.self.invariant.same)

pub entry-requires-clause-odt : goal.entry-requires-clause-odt
entry-requires-clause-odt c = omega (arith, (pointer_in _ c.args.pointer c.known.ensures c.requires).odt, ap length (odts_at_is _ _ _ _ _ _ c.args.pointer.list c.self.view_is c.self.invariant.same))

pub entry-requires-clause-entry : goal.entry-requires-clause-entry
entry-requires-clause-entry c = omega (arith, (pointer_in _ c.args.pointer c.known.ensures c.requires).entry, ap (λ (os : List (List (Option Element))). length (get_or os c.args.pointer.odt [])) (odts_at_is _ _ _ _ _ _ c.args.pointer.list c.self.view_is c.self.invariant.same))

pub returns : goal.returns
returns c =
    let d = c.args.self.now in
    let p = c.args.pointer in
    c.entry.ensures
    ∙ sym (ap (λ (os : List (List (Option Element))). get_or (get_or os p.odt []) p.entry None) (odts_at_is _ _ _ _ _ _ p.list c.self.view_is c.self.invariant.same))
    ∙ sym (ap (λ (o : Option Pointer). entry_by o d) c.requires)
