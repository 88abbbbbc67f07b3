use Rattle.xcp_daq.specs.private.SplicedPools.{synchronised_mode}
use Rattle.xcp_daq.proofs.ListLoopLemmas.{changed_more}
use Rattle.xcp_daq.proofs.daq.starting.synchronise_each.Goals as goal

pub loop-state-preserved : goal.loop-state-preserved
loop-state-preserved c = changed_more (synchronised_mode c.args.mode) c.args.modes.now c.loop-state.modes c.loop-state.state-index _ c.synchronise_one.new.state c.loop-state-test.true c.loop-state.invariant c.synchronise_one.ensures
