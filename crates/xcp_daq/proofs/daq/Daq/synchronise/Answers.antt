use Rattle.std.proofs.Common.{◌≡◌, arith, length, ap, sym, ◌∙◌, List, subst, map}
use Rattle.std.specs.Prelude.{false}
use Rattle.xcp_daq.specs.declared.mode.Mode.{Mode}
use Rattle.xcp_daq.specs.DaqLists.{DaqValue, DaqList, no_list, list_at}
use Rattle.xcp_daq.specs.DaqInvariant.{IsDaq}
use Rattle.std.proofs.lemmas.List.{length-map}
use Rattle.xcp_daq.specs.Pools.{lists_of}
use Rattle.xcp_daq.specs.private.SplicedPools.{synchronised_mode}
use Rattle.xcp_daq.specs.Starting.{synchronised, start_stop_synch_after}
use Rattle.xcp_daq.proofs.ListLoopLemmas.{refilled}
use Rattle.xcp_daq.proofs.DaqListLemmas.{lists-map, synchronised_of}
use Rattle.xcp_daq.proofs.DaqInvariantLemmas.{lawful_map, lawful_synchronised, synchronised_odts}
use Rattle.xcp_daq.proofs.daq.Daq.synchronise.Goals as goal

pub returns : goal.returns
returns c =
    let s = c.self.inside in
    let f = synchronised_mode c.args.mode in
    let new : c.synchronise_each.new.modes ≡ map f s.modes.items = c.synchronise_each.ensures ∙ ap (map f) c.deref_mut.ensures.value in
    let whole = refilled s.modes.len c.synchronise_each.new.modes s.modes.items (sym c.deref_mut.ensures.len ∙ ap length c.deref_mut.ensures.value) (ap length new ∙ length-map s.modes.items f) ∙ new in
    ap (λ (ms : List Mode). let v : DaqValue = record { class = s.odts.class; lists = lists_of ms s.odts.lists; pointer = s.pointer; last = s.last } in v) whole
    ∙ ap (λ (ls : List DaqList). let v : DaqValue = record { class = s.odts.class; lists = ls; pointer = s.pointer; last = s.last } in v) (lists-map f (λ l. record (synchronised c.args.mode l) { selected = false }) (synchronised_of c.args.mode) s.modes.items s.odts.lists)
    ∙ ap (start_stop_synch_after c.args.mode) c.self.view_is

pub invariant_of-self : goal.invariant_of-self
invariant_of-self c =
    let s = c.self.inside in
    let d = c.args.self.now in
    let f = synchronised_mode c.args.mode in
    let lawful = subst IsDaq c.self.view_is c.self.invariant.lawful in
    let new : c.synchronise_each.new.modes ≡ map f s.modes.items = c.synchronise_each.ensures ∙ ap (map f) c.deref_mut.ensures.value in
    let long = ap length new ∙ length-map s.modes.items f in
    let whole = refilled s.modes.len c.synchronise_each.new.modes s.modes.items (sym c.deref_mut.ensures.len ∙ ap length c.deref_mut.ensures.value) long in
    record {
      same = ap length whole ∙ long ∙ c.self.invariant.same;
      lawful = subst IsDaq (sym (returns c)) (lawful_map (λ l. record (synchronised c.args.mode l) { selected = false }) d (synchronised_odts c.args.mode) (λ i below. lawful_synchronised c.args.mode (list_at d i) (lawful.each i no_list below) (λ e s. c.requires e i no_list below s)) lawful);
      room = grind arith;
    }
