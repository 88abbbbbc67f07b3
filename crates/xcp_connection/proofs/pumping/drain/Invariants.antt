use Rattle.std.specs.Prelude.{◌≡◌, ◌⊎◌, true}
use Rattle.xcp_connection.specs.private.HeardSoFar.{AllDrained}
use Rattle.xcp_connection.proofs.pumping.drain.Given as goal

abbrev pub invariant-loop-call : goal.invariant-loop-call
invariant-loop-call g l = record {
  drained : AllDrained (g.S.Station.exchanges l.fn.station) (g.S.Station.exchanges l.station) l.fn.samples.end.put l.samples.end.put;
  first : (l.goes_on ≡ true) ⊎ ((g.S.Station.exchanges l.station ≡ g.S.Station.exchanges l.fn.station) × (l.samples.end.put ≡ l.fn.samples.end.put));
  stays : g.S.Station.same l.fn.station l.station;
  outlet : l.samples.end.outlet ≡ l.fn.samples.end.outlet;
  side : l.samples.end.side ≡ l.fn.samples.end.side;
}
