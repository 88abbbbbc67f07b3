use Rattle.std.proofs.Common.{◌≡◌, ◌≤◌, ◌+◌, length, drop, take}
use Rattle.xcp_daq.specs.Pools.{parts}
use Rattle.xcp_daq.specs.private.SplicedPools.{total}
use Rattle.xcp_daq.specs.Sample.{packets_from}
use Rattle.xcp_daq.proofs.odts.sampling.count_packets.Given as goal

abbrev pub invariant-loop-count : goal.invariant-loop-count
invariant-loop-count l = record {
  at : l.at ≡ total (take l.count-index l.counts);
  most : l.packets ≤ l.count-index;
  rest : l.packets + length (packets_from l.pages 0 (parts (drop l.count-index l.counts) (drop l.at l.entries))) ≡ length (packets_from l.pages 0 (parts l.counts l.entries));
}
