use Rattle.std.proofs.Common.{◌≡◌, length, map, take}
use Rattle.std.specs.List.{enumerate_from}
use Rattle.xcp_memory.specs.LayoutParts.{placed_segment}
use Rattle.xcp_memory.proofs.areas.areas_of.Given as goal

abbrev pub invariant-loop-i : goal.invariant-loop-i
invariant-loop-i l = record {
  count : length l.areas.items ≡ l.i;
  items : l.areas.items ≡ map placed_segment (enumerate_from 0 (take l.i l.segments));
}
