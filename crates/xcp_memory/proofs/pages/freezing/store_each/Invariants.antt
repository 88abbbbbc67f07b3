use Rattle.std.proofs.Common.{◌≡◌, ◌++◌, map, take, drop}
use Rattle.std.specs.Prelude.{count_by}
use Rattle.xcp_memory.specs.Freeze.{segment_frozen}
use Rattle.xcp_memory.proofs.pages.freezing.store_each.Given as goal

abbrev pub invariant-loop-segment : goal.invariant-loop-segment
invariant-loop-segment l = record {
  count : l.count ≡ count_by (λ s. s.freeze) (take l.segment-index l.fn.segments);
  stored : l.segments ≡ map segment_frozen (take l.segment-index l.fn.segments) ++ drop l.segment-index l.fn.segments;
}
