use Rattle.std.proofs.Common.{◌+◌, arith, ap, length}
use Rattle.xcp_daq.specs.Sample.{odt_bytes, packet_of}
use Rattle.xcp_daq.proofs.PoolPartLemmas.{total-more, total-take}
use Rattle.xcp_daq.proofs.SampleLemmas.{one_packet, count_step}
use Rattle.xcp_daq.proofs.odts.sampling.count_packets.Goals as goal

pub cut-requires : goal.cut-requires
cut-requires c = omega (arith, total-more c.args.counts.now c.loop-count.count-index c.loop-count-test.true, total-take c.args.counts.now (c.loop-count.count-index + 1), c.loop-count.invariant.at, c.requires.cut)

pub overflow_add-packets : goal.overflow_add-packets
overflow_add-packets c = omega (arith, c.loop-count.invariant.most, c.count_packet-packets.ensures, one_packet 0 (odt_bytes c.args.pages.now c.cut.result.now))

pub overflow_add-at : goal.overflow_add-at
overflow_add-at c = omega (arith, total-more c.args.counts.now c.loop-count.count-index c.loop-count-test.true, total-take c.args.counts.now (c.loop-count.count-index + 1), c.loop-count.invariant.at, c.requires.cut, c.requires.few)

pub loop-count-preserved : goal.loop-count-preserved
loop-count-preserved c = record {
  at = omega (arith, c.loop-count.invariant.at, total-more c.args.counts.now c.loop-count.count-index c.loop-count-test.true);
  most = omega (arith, c.loop-count.invariant.most, c.count_packet-packets.ensures, one_packet 0 (odt_bytes c.args.pages.now c.cut.result.now));
  rest = omega (arith, c.loop-count.invariant.rest, c.count_packet-packets.ensures, ap (λ odt. length (packet_of 0 (odt_bytes c.args.pages.now odt))) c.cut.ensures, count_step c.args.pages.now c.args.counts.now c.args.entries.now c.loop-count.count-index c.loop-count.at c.loop-count-test.true);
}
