use Rattle.std.proofs.Common.{◌≡◌, map, None}
use Rattle.std.specs.List.{flat_map, enumerate_from}
use Rattle.xcp_memory.specs.LayoutParts.{event_of_part}
use Rattle.xcp_packet.specs.Rows.{first_holding}
use Rattle.xcp_memory.specs.Limits.{event_limits}
use Rattle.xcp_memory.proofs.event_channel.read_events.Given as goal

abbrev pub invariant-loop-part : goal.invariant-loop-part
invariant-loop-part l = record {
  items : l.events.items ≡ map event_of_part l.yielded;
  kept : first_holding (flat_map event_limits (enumerate_from 0 l.yielded)) ≡ None;
}
