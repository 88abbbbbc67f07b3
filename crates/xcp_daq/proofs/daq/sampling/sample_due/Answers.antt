use Rattle.std.proofs.Common.{ap, ◌∙◌, ◌++◌, arith, None}
use Rattle.std.specs.List.{flat_map, enumerate_from}
use Rattle.std.proofs.lemmas.List.{take_all}
use Rattle.std.proofs.lemmas.List.FromFn.{length-enumerate_from}
use Rattle.xcp_daq.specs.Pools.{lists_of, daq_of}
use Rattle.xcp_daq.specs.Sample.{list_packets}
use Rattle.xcp_daq.proofs.DaqListLemmas.{length-lists}
use Rattle.xcp_daq.proofs.DueListLemmas.{due_more}
use Rattle.xcp_daq.proofs.daq.sampling.sample_due.Goals as goal

pub loop-i-preserved : goal.loop-i-preserved
loop-i-preserved c = record {
  items = due_more (list_packets c.args.channel c.args.time c.args.pages.now (daq_of c.args.odts.now.class c.args.modes.now c.args.odts.now.lists None None)) c.args.modes.now c.args.odts.now.lists c.loop-i.i c.args.out.now.items c.loop-i.out.items c.sample_list.new.out.items c.requires.same c.loop-i-test.true c.loop-i.invariant.items c.sample_list.ensures.items;
  room = c.sample_list.ensures.room;
  capacity = c.sample_list.ensures.capacity ∙ c.loop-i.invariant.capacity;
}

pub returns-clause-items : goal.returns-clause-items
returns-clause-items c =
    let ms = c.args.modes.now in
    let os = c.args.odts.now.lists in
    let f = list_packets c.args.channel c.args.time c.args.pages.now (daq_of c.args.odts.now.class ms os None None) in
    c.loop-i.invariant.items ∙ ap (λ xs. c.args.out.now.items ++ flat_map f xs) (take_all c.loop-i.i (enumerate_from 0 (lists_of ms os)) (omega (arith, c.loop-i-test.false, length-lists ms os c.requires.same, length-enumerate_from 0 (lists_of ms os))))
