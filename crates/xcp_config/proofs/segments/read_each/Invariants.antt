use Rattle.std.proofs.Common.{◌≡◌, ◌≤◌, map, take, drop, sum_by}
use Rattle.std.specs.List.{flat_map, enumerate_from}
use Rattle.toml.specs.View.{view}
use Rattle.xcp_memory.specs.ClassLimits.{limits_of}
use Rattle.xcp_packet.specs.Rows.{first_holding}
use Rattle.xcp_config.specs.TableLayout.{filed, size_of}
use Rattle.xcp_config.specs.TableChecks.{checks_in}
use Rattle.xcp_config.specs.private.PartsRead.{segment_read, segment_in_parts}
use Rattle.xcp_config.proofs.segments.read_each.Given as goal

abbrev pub invariant-loop-i : goal.invariant-loop-i
invariant-loop-i l = record {
  checked : first_holding (flat_map (checks_in l.class (filed l.files (map view l.members))) (enumerate_from 0 (filed l.files (map view l.members)))) ≡ first_holding (flat_map (checks_in l.class (filed l.files (map view l.members))) (enumerate_from l.i (drop l.i (filed l.files (map view l.members)))));
  read : map segment_read l.parts.items ≡ map segment_in_parts (take l.i (filed l.files (map view l.members)));
  total : l.total ≡ sum_by size_of (take l.i (filed l.files (map view l.members)));
  room : l.total ≤ (limits_of l.class).bytes;
}
