use Rattle.std.proofs.Common.{◌+◌, arith, ◌∙◌, sym, ap}
use Rattle.xcp_daq.specs.DaqLists.{odt_size}
use Rattle.xcp_daq.proofs.PoolPartLemmas.{total-more, total-take}
use Rattle.xcp_daq.proofs.OdtLemmas.{small_step}
use Rattle.xcp_daq.proofs.odts.reading.any_large.Goals as goal

pub cut-requires : goal.cut-requires
cut-requires c = omega (arith, total-more c.args.counts.now c.loop-count.count-index c.loop-count-test.true, total-take c.args.counts.now (c.loop-count.count-index + 1), c.loop-count.invariant.at, c.requires.cut)

pub overflow_add-at : goal.overflow_add-at
overflow_add-at c = omega (arith, total-more c.args.counts.now c.loop-count.count-index c.loop-count-test.true, total-take c.args.counts.now (c.loop-count.count-index + 1), c.loop-count.invariant.at, c.requires.cut, c.requires.few)

pub loop-count-preserved : goal.loop-count-preserved
loop-count-preserved c = record {
  at = omega (arith, c.loop-count.invariant.at, total-more c.args.counts.now c.loop-count.count-index c.loop-count-test.true);
  rest = sym (small_step c.args.greatest c.args.counts.now c.args.entries.now c.loop-count.count-index c.loop-count.at c.loop-count-test.true (omega (arith, ap odt_size c.cut.ensures, c.size_of_odt.ensures, c.from.ensures, c.if-size_of_odt-from.false))) ∙ c.loop-count.invariant.rest;
}
