use Rattle.std.proofs.Common.{◌≤◌, ◌*◌, Ok}
use Rattle.xcp_framing.specs.Pump.{DrainsInto}
use Rattle.xcp_framing.proofs.station.Station.drain_into.Given as goal

abbrev pub invariant-loop-drain : goal.invariant-loop-drain
invariant-loop-drain g l = record {
  drains : DrainsInto l._drain (Ok l.count) (g.Self.Station.exchanges l.fn.self) (g.Self.Station.exchanges l.self) l.fn.batch l.batch;
  stays : g.Self.Station.same l.fn.self l.self;
  bound : l.count ≤ 37 * l._drain;
}
