use Rattle.std.proofs.Common.{◌<◌, length, get_or, ap, sym, ◌∙◌, arith, [], List, slice_set, subst, Some}
use Rattle.std.specs.Prelude.{Option}
use Rattle.xcp_daq.specs.declared.element.Element.{Element}
use Rattle.xcp_daq.specs.declared.pointer.Pointer.{Pointer}
use Rattle.xcp_daq.specs.DaqLists.{DaqValue, odt_at, with_odt}
use Rattle.xcp_daq.specs.DaqInvariant.{IsDaq}
use Rattle.std.proofs.lemmas.List.{length-set}
use Rattle.xcp_daq.proofs.DaqListLemmas.{count_of, odts_at_is, odts_set}
use Rattle.xcp_daq.proofs.DaqInvariantLemmas.{pointer_in, lawful_entry, lawful_pointer, grows_entry}
use Rattle.xcp_daq.proofs.daq.Daq.write_entry.Goals as goal

pub behind-next-requires : goal.behind-next-requires
behind-next-requires c = pointer_in _ c.args.pointer c.known.ensures c.requires.pointer

pub write-requires-clause-list : goal.write-requires-clause-list
write-requires-clause-list c = omega (arith, (pointer_in _ c.args.pointer c.known.ensures c.requires.pointer).list, count_of _ _ _ _ _ _ c.self.view_is c.self.invariant.same, c.self.invariant.same)

pub write-requires-clause-odt : goal.write-requires-clause-odt
write-requires-clause-odt c = omega (arith, (pointer_in _ c.args.pointer c.known.ensures c.requires.pointer).odt, ap length (odts_at_is _ _ _ _ _ _ c.args.pointer.list c.self.view_is c.self.invariant.same))

pub write-requires-clause-entry : goal.write-requires-clause-entry
write-requires-clause-entry c = omega (arith, (pointer_in _ c.args.pointer c.known.ensures c.requires.pointer).entry, ap (λ (os : List (List (Option Element))). length (get_or os c.args.pointer.odt [])) (odts_at_is _ _ _ _ _ _ c.args.pointer.list c.self.view_is c.self.invariant.same))

pub returns : goal.returns
returns c =
    let s = c.self.inside in
    let p = c.args.pointer in
    let e : Element = record { size = c.args.size; address = c.args.address } in
    let next = c.behind-next.result in
    let below : p.list < length s.modes.items = omega (arith, (pointer_in _ p c.known.ensures c.requires.pointer).list, count_of _ _ _ _ _ _ c.self.view_is c.self.invariant.same) in
    let lists = odts_set (λ os. slice_set os p.odt (slice_set (get_or os p.odt []) p.entry (Some e))) s.modes.items s.odts.lists c.write.new.self.lists p.list c.self.invariant.same below c.write.ensures.lists in
    (λ i. let v : DaqValue = record { class = c.write.ensures.class i; lists = lists i; pointer = next; last = s.last } in v)
    ∙ ap (λ (v : DaqValue). let w : DaqValue = record (with_odt v p.list p.odt (slice_set (odt_at v p.list p.odt) p.entry (Some e))) { pointer = next } in w) c.self.view_is
    ∙ ap (λ (q : Option Pointer). let w : DaqValue = record (with_odt c.args.self.now p.list p.odt (slice_set (odt_at c.args.self.now p.list p.odt) p.entry (Some e))) { pointer = q } in w) c.behind-next.ensures

pub invariant_of-self : goal.invariant_of-self
invariant_of-self c =
    let d = c.args.self.now in
    let p = c.args.pointer in
    let e : Element = record { size = c.args.size; address = c.args.address } in
    let at = pointer_in d p c.known.ensures c.requires.pointer in
    let written = lawful_entry d p.list p.odt p.entry e c.known.ensures at.list at.odt c.requires.still (c.requires.some, c.requires.short, omega arith) in
    record {
      same = c.self.invariant.same ∙ sym (ap length c.write.ensures.lists ∙ length-set c.self.inside.odts.lists p.list _);
      lawful = subst IsDaq (sym (returns c)) (lawful_pointer _ _ written (grows_entry d p e at));
      room = grind arith;
    }
