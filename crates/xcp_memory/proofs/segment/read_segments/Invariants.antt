use Rattle.std.proofs.Common.{◌≡◌, ◌≤◌, map, sum_by, None}
use Rattle.std.specs.List.{flat_map, enumerate_from}
use Rattle.xcp_memory.specs.ClassLimits.{limits_of}
use Rattle.xcp_memory.specs.LayoutParts.{segment_of_part, size}
use Rattle.xcp_packet.specs.Rows.{first_holding}
use Rattle.xcp_memory.specs.Limits.{limits_in}
use Rattle.xcp_memory.proofs.segment.read_segments.Given as goal

abbrev pub invariant-loop-part : goal.invariant-loop-part
invariant-loop-part l = record {
  items : l.segments.items ≡ map segment_of_part l.yielded;
  total : l.total ≡ sum_by size l.yielded;
  room : l.total ≤ (limits_of l.fn.class).bytes;
  kept : first_holding (flat_map (limits_in l.fn.class l.fn.parts.items) (enumerate_from 0 l.yielded)) ≡ None;
}
