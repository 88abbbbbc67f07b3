use Rattle.std.proofs.Common.{◌≡◌, ◌++◌}
use Rattle.std.specs.Prelude.{replicate}
use Rattle.xcp_daq.proofs.pools.put_behind.Given as goal

abbrev pub invariant-loop : goal.invariant-loop
invariant-loop g l = l.pool.items ≡ l.fn.pool.items ++ replicate l.counter l.x
