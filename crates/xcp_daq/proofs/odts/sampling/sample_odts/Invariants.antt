use Rattle.std.proofs.Common.{◌≡◌, ◌≤◌, ◌+◌, ◌++◌, drop, take}
use Rattle.std.specs.Prelude.{vec_len, vec_capacity}
use Rattle.xcp_daq.specs.Pools.{parts}
use Rattle.xcp_daq.specs.private.SplicedPools.{total}
use Rattle.xcp_daq.specs.Sample.{packets_from}
use Rattle.xcp_daq.proofs.odts.sampling.sample_odts.Given as goal

abbrev pub invariant-loop-j : goal.invariant-loop-j
invariant-loop-j l = record {
  at : l.at ≡ total (take l.j l.counts);
  room : vec_len l.out ≤ vec_len l.fn.out + l.j;
  capacity : vec_capacity l.out ≡ vec_capacity l.fn.out;
  rest : l.out.items ++ packets_from l.pages (l.first + l.j) (parts (drop l.j l.counts) (drop l.at l.entries)) ≡ l.fn.out.items ++ packets_from l.pages l.first (parts l.counts l.entries);
}
