use Rattle.std.proofs.Common.{ap, ◌∙◌, arith, None, length}
use Rattle.std.specs.List.{flat_map, enumerate_from}
use Rattle.std.proofs.lemmas.List.{take_all}
use Rattle.std.proofs.lemmas.List.FromFn.{length-enumerate_from}
use Rattle.xcp_daq.specs.Pools.{lists_of, daq_of}
use Rattle.xcp_daq.specs.Sample.{list_packets}
use Rattle.xcp_daq.proofs.DaqListLemmas.{length-lists}
use Rattle.xcp_daq.proofs.DueListLemmas.{count_more, count_most}
use Rattle.xcp_daq.proofs.daq.sampling.count_due.Goals as goal

pub overflow_add-n : goal.overflow_add-n
overflow_add-n c = omega (arith, c.requires.few, count_most (list_packets c.args.channel 0 c.args.pages.now (daq_of c.args.odts.now.class c.args.modes.now c.args.odts.now.lists None None)) c.args.modes.now c.args.odts.now.lists c.loop-i.i c.loop-i.n c.count_list-n.result c.requires.same c.loop-i-test.true c.loop-i.invariant c.count_list-n.ensures)

pub loop-i-preserved : goal.loop-i-preserved
loop-i-preserved c = count_more (list_packets c.args.channel 0 c.args.pages.now (daq_of c.args.odts.now.class c.args.modes.now c.args.odts.now.lists None None)) c.args.modes.now c.args.odts.now.lists c.loop-i.i c.loop-i.n c.count_list-n.result c.requires.same c.loop-i-test.true c.loop-i.invariant c.count_list-n.ensures

pub returns : goal.returns
returns c =
    let ms = c.args.modes.now in
    let os = c.args.odts.now.lists in
    let f = list_packets c.args.channel 0 c.args.pages.now (daq_of c.args.odts.now.class ms os None None) in
    c.loop-i.invariant ∙ ap (λ ls. length (flat_map f ls)) (take_all c.loop-i.i (enumerate_from 0 (lists_of ms os)) (omega (arith, c.loop-i-test.false, length-lists ms os c.requires.same, length-enumerate_from 0 (lists_of ms os))))
