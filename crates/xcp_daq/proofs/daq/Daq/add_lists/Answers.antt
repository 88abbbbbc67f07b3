use Rattle.std.proofs.Common.{length, ap, sym, ◌∙◌, arith, [], List, subst, Some}
use Rattle.std.specs.Prelude.{Option, replicate}
use Rattle.xcp_daq.specs.declared.element.Element.{Element}
use Rattle.xcp_daq.specs.DaqLists.{DaqValue}
use Rattle.xcp_daq.specs.DaqInvariant.{IsDaq}
use Rattle.std.proofs.Common.{length-append}
use Rattle.std.proofs.lemmas.List.{length-replicate}
use Rattle.xcp_daq.specs.declared.allocation.Allocation.TheVariants.{AllocDaq}
use Rattle.xcp_daq.specs.Allocating.{alloc_daq_after}
use Rattle.xcp_daq.proofs.DaqListLemmas.{lists_added}
use Rattle.xcp_daq.proofs.DaqInvariantLemmas.{lawful_added, lawful_last}
use Rattle.xcp_daq.proofs.daq.Daq.add_lists.Goals as goal

pub returns : goal.returns
returns c =
    let s = c.self.inside in
    let lists = lists_added s.modes.items c.put_in.new.pool.items s.odts.lists c.add_lists.new.self.lists c.len-end.result c.args.n c.self.invariant.same (omega (arith, c.len-end.ensures)) c.put_in.ensures.items c.add_lists.ensures.lists in
    (λ i. let v : DaqValue = record { class = c.add_lists.ensures.class i; lists = lists i; pointer = s.pointer; last = Some AllocDaq } in v)
    ∙ ap (alloc_daq_after c.args.n) c.self.view_is

pub invariant_of-self : goal.invariant_of-self
invariant_of-self c =
    let s = c.self.inside in
    let d = c.args.self.now in
    let lawful = subst IsDaq c.self.view_is c.self.invariant.lawful in
    let n = c.args.n in
    record {
      same = omega (arith, c.put_in.ensures.len, ap length c.add_lists.ensures.lists, length-append s.odts.lists (replicate n []), length-replicate {A = List (List (Option Element))} n [], c.self.invariant.same);
      lawful = subst IsDaq (sym (returns c)) (lawful_last _ (Some AllocDaq) (lawful_added d n lawful c.requires));
      room = grind arith;
    }
