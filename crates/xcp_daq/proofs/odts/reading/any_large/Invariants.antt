use Rattle.std.proofs.Common.{◌≡◌, drop, take}
use Rattle.xcp_daq.specs.DaqLists.{any_large}
use Rattle.xcp_daq.specs.Pools.{parts}
use Rattle.xcp_daq.specs.private.SplicedPools.{total}
use Rattle.xcp_daq.proofs.odts.reading.any_large.Given as goal

abbrev pub invariant-loop-count : goal.invariant-loop-count
invariant-loop-count l = record {
  at : l.at ≡ total (take l.count-index l.counts);
  rest : any_large l.greatest (parts (drop l.count-index l.counts) (drop l.at l.entries)) ≡ any_large l.greatest (parts l.counts l.entries);
}
