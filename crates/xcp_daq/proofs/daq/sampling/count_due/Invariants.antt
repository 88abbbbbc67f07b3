use Rattle.std.proofs.Common.{◌≡◌, take, length, None}
use Rattle.std.specs.List.{flat_map, enumerate_from}
use Rattle.xcp_daq.specs.Pools.{lists_of, daq_of}
use Rattle.xcp_daq.specs.Sample.{list_packets}
use Rattle.xcp_daq.proofs.daq.sampling.count_due.Given as goal

abbrev pub invariant-loop-i : goal.invariant-loop-i
invariant-loop-i l = l.n ≡ length (flat_map (list_packets l.channel 0 l.pages (daq_of l.odts.class l.modes l.odts.lists None None)) (take l.i (enumerate_from 0 (lists_of l.modes l.odts.lists))))
