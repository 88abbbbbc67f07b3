use Rattle.std.proofs.Common.{◌≡◌, map, take, drop}
use Rattle.std.specs.List.{flat_map, enumerate_from}
use Rattle.toml.specs.View.{view}
use Rattle.xcp_packet.specs.Rows.{first_holding}
use Rattle.xcp_config.specs.TableChecks.{event_checks}
use Rattle.xcp_config.specs.private.PartsRead.{event_read, event_written}
use Rattle.xcp_config.proofs.events.read_each.Given as goal

abbrev pub invariant-loop-i : goal.invariant-loop-i
invariant-loop-i l = record {
  checked : first_holding (flat_map event_checks (enumerate_from 0 (map view l.members))) ≡ first_holding (flat_map event_checks (enumerate_from l.i (drop l.i (map view l.members))));
  read : map event_read l.parts.items ≡ map event_written (take l.i (map view l.members));
}
