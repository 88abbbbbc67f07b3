use Rattle.std.proofs.Common.{◌<◌, ◌++◌, length, ap, sym, ◌∙◌, arith, [], subst, Some}
use Rattle.std.specs.Prelude.{replicate}
use Rattle.xcp_daq.specs.DaqLists.{DaqValue}
use Rattle.xcp_daq.specs.DaqInvariant.{IsDaq}
use Rattle.std.proofs.lemmas.List.{length-set}
use Rattle.xcp_daq.specs.declared.allocation.Allocation.TheVariants.{AllocOdt}
use Rattle.xcp_daq.specs.Allocating.{alloc_odt_after}
use Rattle.xcp_daq.proofs.DaqListLemmas.{count_of, odts_set}
use Rattle.xcp_daq.proofs.DaqInvariantLemmas.{lawful_more_odts, lawful_last, stands_still}
use Rattle.xcp_daq.proofs.daq.Daq.add_odts.Goals as goal

pub returns : goal.returns
returns c =
    let s = c.self.inside in
    let n = c.args.n in
    let below : c.args.i < length s.modes.items = omega (arith, c.requires.list, count_of _ _ _ _ _ _ c.self.view_is c.self.invariant.same) in
    let lists = odts_set (λ os. os ++ replicate n []) s.modes.items s.odts.lists c.add_odts.new.self.lists c.args.i c.self.invariant.same below c.add_odts.ensures.lists in
    (λ i. let v : DaqValue = record { class = c.add_odts.ensures.class i; lists = lists i; pointer = s.pointer; last = Some AllocOdt } in v)
    ∙ ap (alloc_odt_after c.args.i n) c.self.view_is

pub invariant_of-self : goal.invariant_of-self
invariant_of-self c =
    let d = c.args.self.now in
    let lawful = subst IsDaq c.self.view_is c.self.invariant.lawful in
    record {
      same = c.self.invariant.same ∙ sym (ap length c.add_odts.ensures.lists ∙ length-set c.self.inside.odts.lists c.args.i _);
      lawful = subst IsDaq (sym (returns c)) (lawful_last _ (Some AllocOdt) (lawful_more_odts d c.args.i c.args.n lawful c.requires.list (stands_still d.lists c.args.i c.requires.list c.requires.still) c.requires.room));
      room = grind arith;
    }
