use Rattle.std.proofs.Common.{◌≡◌, ◌<◌, ◌≤◌, length, get_or, ap, sym, ◌∙◌, arith, List, subst, map}
use Rattle.xcp_daq.specs.declared.mode.Mode.{Mode}
use Rattle.xcp_daq.specs.DaqLists.{DaqValue, DaqList, no_list, list_at}
use Rattle.xcp_daq.specs.DaqInvariant.{IsDaq}
use Rattle.std.proofs.Common.{length}
use Rattle.std.proofs.lemmas.List.{length-map}
use Rattle.xcp_daq.specs.Pools.{lists_of}
use Rattle.xcp_daq.specs.private.SplicedPools.{counted_mode}
use Rattle.xcp_daq.specs.Sample.{counted, after_event}
use Rattle.xcp_daq.proofs.ListLoopLemmas.{refilled}
use Rattle.xcp_daq.proofs.DaqListLemmas.{lists-map, counted_of}
use Rattle.xcp_daq.proofs.DaqInvariantLemmas.{mode_lawful, lawful_map, lawful_counted, counted_odts}
use Rattle.xcp_daq.proofs.daq.Daq.count_event.Goals as goal

pub count_each-requires : goal.count_each-requires
count_each-requires c = λ k d below.
    let here : k < length c.self.inside.modes.items = omega (arith, ap length c.deref_mut.ensures.value) in
    subst (λ (m : Mode). 1 ≤ m.prescaler) (sym (ap (λ (ms : List Mode). get_or ms k d) c.deref_mut.ensures.value)) (mode_lawful c.self.inside.modes.items c.self.inside.odts.lists k d c.self.invariant.same c.self.invariant.lawful.each here).prescaler_least

pub returns : goal.returns
returns c =
    let s = c.self.inside in
    let new : c.count_each.new.modes ≡ map (counted_mode c.args.channel) s.modes.items = c.count_each.ensures ∙ ap (map (counted_mode c.args.channel)) c.deref_mut.ensures.value in
    let whole = refilled s.modes.len c.count_each.new.modes s.modes.items (sym c.deref_mut.ensures.len ∙ ap length c.deref_mut.ensures.value) (ap length new ∙ length-map s.modes.items (counted_mode c.args.channel)) ∙ new in
    ap (λ (ms : List Mode). let v : DaqValue = record { class = s.odts.class; lists = lists_of ms s.odts.lists; pointer = s.pointer; last = s.last } in v) whole
    ∙ ap (λ (ls : List DaqList). let v : DaqValue = record { class = s.odts.class; lists = ls; pointer = s.pointer; last = s.last } in v) (lists-map (counted_mode c.args.channel) (counted c.args.channel) (counted_of c.args.channel) s.modes.items s.odts.lists)
    ∙ ap (after_event c.args.channel) c.self.view_is

pub invariant_of-self : goal.invariant_of-self
invariant_of-self c =
    let s = c.self.inside in
    let d = c.args.self.now in
    let lawful = subst IsDaq c.self.view_is c.self.invariant.lawful in
    let new : c.count_each.new.modes ≡ map (counted_mode c.args.channel) s.modes.items = c.count_each.ensures ∙ ap (map (counted_mode c.args.channel)) c.deref_mut.ensures.value in
    let long = ap length new ∙ length-map s.modes.items (counted_mode c.args.channel) in
    let whole = refilled s.modes.len c.count_each.new.modes s.modes.items (sym c.deref_mut.ensures.len ∙ ap length c.deref_mut.ensures.value) long in
    record {
      same = ap length whole ∙ long ∙ c.self.invariant.same;
      lawful = subst IsDaq (sym (returns c)) (lawful_map (counted c.args.channel) d (counted_odts c.args.channel) (λ i below. lawful_counted c.args.channel (list_at d i) (lawful.each i no_list below)) lawful);
      room = grind arith;
    }
