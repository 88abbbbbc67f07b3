use Rattle.std.proofs.Common.{sym, ◌≤◌, subst}
use Rattle.xcp_daq.specs.declared.mode.Mode.{Mode}
use Rattle.xcp_daq.specs.private.SplicedPools.{counted_mode}
use Rattle.xcp_daq.proofs.ListLoopLemmas.{changed_more, unchanged_next}
use Rattle.xcp_daq.proofs.daq.sampling.count_each.Goals as goal

pub count_one-requires : goal.count_one-requires
count_one-requires c = subst (λ (m : Mode). 1 ≤ m.prescaler) (sym (unchanged_next (counted_mode c.args.channel) c.args.modes.now c.loop-mode.modes c.loop-mode.mode-index _ c.loop-mode-test.true c.loop-mode.invariant)) (c.requires c.loop-mode.mode-index _ c.loop-mode-test.true)

pub loop-mode-preserved : goal.loop-mode-preserved
loop-mode-preserved c = changed_more (counted_mode c.args.channel) c.args.modes.now c.loop-mode.modes c.loop-mode.mode-index _ c.count_one.new.mode c.loop-mode-test.true c.loop-mode.invariant c.count_one.ensures
