use Rattle.std.proofs.Common.{◌≡◌, ◌≤◌, ◌+◌, ◌++◌, take, length, None}
use Rattle.std.specs.Prelude.{vec_len, vec_capacity}
use Rattle.std.specs.List.{flat_map, enumerate_from}
use Rattle.xcp_memory.specs.ClassLimits.{limits_of}
use Rattle.xcp_daq.specs.Pools.{joined, lists_of, daq_of}
use Rattle.xcp_daq.specs.Sample.{list_packets}
use Rattle.xcp_daq.proofs.daq.sampling.sample_due.Given as goal

abbrev pub invariant-loop-i : goal.invariant-loop-i
invariant-loop-i l = record {
  items : l.out.items ≡ l.fn.out.items ++ flat_map (list_packets l.channel l.time l.pages (daq_of l.odts.class l.modes l.odts.lists None None)) (take l.i (enumerate_from 0 (lists_of l.modes l.odts.lists)));
  room : vec_len l.out + (limits_of l.odts.class).odts ≤ vec_capacity l.out + length (joined (take l.i l.odts.lists));
  capacity : vec_capacity l.out ≡ vec_capacity l.fn.out;
}
