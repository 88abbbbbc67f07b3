use Rattle.std.proofs.Common.{◌≡◌, ◌++◌, map, take, drop}
use Rattle.xcp_daq.specs.private.SplicedPools.{synchronised_mode}
use Rattle.xcp_daq.proofs.daq.starting.synchronise_each.Given as goal

abbrev pub invariant-loop-state : goal.invariant-loop-state
invariant-loop-state l = l.modes ≡ map (synchronised_mode l.mode) (take l.state-index l.fn.modes) ++ drop l.state-index l.fn.modes
