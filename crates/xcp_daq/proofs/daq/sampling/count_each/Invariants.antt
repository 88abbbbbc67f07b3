use Rattle.std.proofs.Common.{◌≡◌, ◌++◌, map, take, drop}
use Rattle.xcp_daq.specs.private.SplicedPools.{counted_mode}
use Rattle.xcp_daq.proofs.daq.sampling.count_each.Given as goal

abbrev pub invariant-loop-mode : goal.invariant-loop-mode
invariant-loop-mode l = l.modes ≡ map (counted_mode l.channel) (take l.mode-index l.fn.modes) ++ drop l.mode-index l.fn.modes
