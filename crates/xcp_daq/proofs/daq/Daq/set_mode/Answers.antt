use Rattle.std.proofs.Common.{◌<◌, length, ap, sym, ◌∙◌, arith, List, subst}
use Rattle.xcp_daq.specs.DaqLists.{DaqValue, DaqList, list_at, with_list}
use Rattle.xcp_daq.specs.DaqInvariant.{IsDaq}
use Rattle.std.proofs.lemmas.List.{length-set}
use Rattle.std.proofs.Common.{refl}
use Rattle.xcp_daq.specs.Pools.{list_of}
use Rattle.xcp_daq.proofs.DaqListLemmas.{count_of, modes_set}
use Rattle.xcp_daq.proofs.DaqInvariantLemmas.{lawful_mode}
use Rattle.xcp_daq.proofs.daq.Daq.set_mode.Goals as goal

pub returns : goal.returns
returns c =
    let s = c.self.inside in
    let below : c.args.i < length s.modes.items = omega (arith, c.requires.list, count_of _ _ _ _ _ _ c.self.view_is c.self.invariant.same) in
    ap (λ (ls : List DaqList). let v : DaqValue = record { class = s.odts.class; lists = ls; pointer = s.pointer; last = s.last } in v) (modes_set s.modes.items _ s.odts.lists c.args.i c.args.mode c.self.invariant.same below refl)
    ∙ ap (λ (v : DaqValue). with_list v c.args.i (list_of c.args.mode (list_at v c.args.i).odts)) c.self.view_is

pub invariant_of-self : goal.invariant_of-self
invariant_of-self c =
    let d = c.args.self.now in
    let lawful = subst IsDaq c.self.view_is c.self.invariant.lawful in
    record {
      same = length-set c.self.inside.modes.items c.args.i c.args.mode ∙ c.self.invariant.same;
      lawful = subst IsDaq (sym (returns c)) (lawful_mode d c.args.i (list_of c.args.mode (list_at d c.args.i).odts) lawful c.requires.list c.requires.lawful refl);
      room = c.self.invariant.room;
    }
