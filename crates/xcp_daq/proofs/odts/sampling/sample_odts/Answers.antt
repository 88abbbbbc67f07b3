use Rattle.std.proofs.Common.{◌≤◌, ◌+◌, ◌++◌, arith, ◌∙◌, sym, ap, take, drop, get_or, List, []}
use Rattle.std.specs.Prelude.{Option}
use Rattle.std.proofs.lemmas.List.Elements.{All-get_or}
use Rattle.xcp_daq.specs.declared.element.Element.{Element}
use Rattle.xcp_daq.specs.DaqLists.{odt_size}
use Rattle.xcp_daq.specs.Pools.{parts}
use Rattle.xcp_daq.specs.Sample.{packet_of, odt_bytes}
use Rattle.xcp_daq.proofs.PoolPartLemmas.{total-more, total-take, length-parts}
use Rattle.xcp_daq.proofs.OdtLemmas.{part_is}
use Rattle.xcp_daq.proofs.SampleLemmas.{packets_step}
use Rattle.xcp_daq.proofs.odts.sampling.sample_odts.Goals as goal

pub cut-requires : goal.cut-requires
cut-requires c = omega (arith, total-more c.args.counts.now c.loop-j.j c.loop-j-test.true, total-take c.args.counts.now (c.loop-j.j + 1), c.loop-j.invariant.at, c.requires.cut)

pub push_packet-requires-clause-fits : goal.push_packet-requires-clause-fits
push_packet-requires-clause-fits c =
    let fits = All-get_or (λ (odt : List (Option Element)). odt_size odt ≤ 254) (parts c.args.counts.now c.args.entries.now) c.loop-j.j [] (omega (arith, length-parts c.args.counts.now c.args.entries.now)) c.requires.fits in
    let cut = c.cut.ensures ∙ ap (λ at. take (get_or c.args.counts.now c.loop-j.j 0) (drop at c.args.entries.now)) c.loop-j.invariant.at ∙ sym (part_is c.args.counts.now c.args.entries.now c.loop-j.j c.loop-j-test.true) in
    omega (arith, fits, ap odt_size cut)

pub overflow_add-at : goal.overflow_add-at
overflow_add-at c = omega (arith, total-more c.args.counts.now c.loop-j.j c.loop-j-test.true, total-take c.args.counts.now (c.loop-j.j + 1), c.loop-j.invariant.at, c.requires.cut, c.requires.few)

pub loop-j-preserved : goal.loop-j-preserved
loop-j-preserved c = record {
  at = omega (arith, c.loop-j.invariant.at, total-more c.args.counts.now c.loop-j.j c.loop-j-test.true);
  room = omega (arith, c.loop-j.invariant.room, c.push_packet.ensures.len);
  capacity = c.push_packet.ensures.capacity ∙ c.loop-j.invariant.capacity;
  rest = packets_step c.args.pages.now c.loop-j.out.items c.push_packet.new.out.items _ c.args.counts.now c.args.entries.now c.args.first c.loop-j.j c.loop-j.at c.loop-j-test.true c.loop-j.invariant.rest (c.push_packet.ensures.items ∙ ap (λ (odt : List (Option Element)). c.loop-j.out.items ++ packet_of (c.args.first + c.loop-j.j) (odt_bytes c.args.pages.now odt)) c.cut.ensures);
}
