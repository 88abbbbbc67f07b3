use Rattle.std.proofs.Common.{◌≡◌, take}
use Rattle.xcp_daq.specs.private.SplicedPools.{total}
use Rattle.xcp_daq.proofs.pools.sum_before.Given as goal

abbrev pub invariant-loop-k : goal.invariant-loop-k
invariant-loop-k l = l.sum ≡ total (take l.k l.counts)
