use Rattle.std.proofs.Common.{◌<◌, length, ap, sym, ◌∙◌, arith, subst, None, map}
use Rattle.xcp_daq.specs.DaqLists.{DaqValue, list_at, with_list}
use Rattle.xcp_daq.specs.DaqInvariant.{IsDaq}
use Rattle.std.proofs.lemmas.List.{length-set}
use Rattle.xcp_daq.proofs.DaqListLemmas.{count_of, odts_set}
use Rattle.xcp_daq.proofs.DaqInvariantLemmas.{lawful_bare}
use Rattle.xcp_daq.proofs.daq.Daq.unwrite.Goals as goal

pub returns : goal.returns
returns c =
    let s = c.self.inside in
    let below : c.args.i < length s.modes.items = omega (arith, c.requires.list, count_of _ _ _ _ _ _ c.self.view_is c.self.invariant.same) in
    let lists = odts_set (map (map (λ entry. None))) s.modes.items s.odts.lists c.unwrite.new.self.lists c.args.i c.self.invariant.same below c.unwrite.ensures.lists in
    (λ i. let v : DaqValue = record { class = c.unwrite.ensures.class i; lists = lists i; pointer = s.pointer; last = s.last } in v)
    ∙ ap (λ (v : DaqValue). with_list v c.args.i (record (list_at v c.args.i) { odts = map (map (λ entry. None)) (list_at v c.args.i).odts })) c.self.view_is

pub invariant_of-self : goal.invariant_of-self
invariant_of-self c =
    let d = c.args.self.now in
    let lawful = subst IsDaq c.self.view_is c.self.invariant.lawful in
    record {
      same = c.self.invariant.same ∙ sym (ap length c.unwrite.ensures.lists ∙ length-set c.self.inside.odts.lists c.args.i _);
      lawful = subst IsDaq (sym (returns c)) (lawful_bare d c.args.i lawful c.requires.list c.requires.still);
      room = grind arith;
    }
