use Rattle.std.specs.Prelude.{◌≡◌, ◌⊎◌}
use Rattle.xcp_framing.specs.CountedCalls.{stream_place}
use Rattle.xcp_connection.specs.private.HeardSoFar.{AllHeard}
use Rattle.xcp_connection.proofs.hearing.hear.Given as goal

abbrev pub invariant-loop-passage : goal.invariant-loop-passage
invariant-loop-passage g l = record {
  heard : AllHeard l.max_cto (stream_place g.I.Read.remaining l.fn.reader) (stream_place g.I.Read.remaining l.reader) (g.S.Station.exchanges l.fn.station) (g.S.Station.exchanges l.station) l.fn.replies.end.put l.replies.end.put;
  fine : l.reader.failures ≡ l.fn.reader.failures;
  first : g.P.Passages.goes_on ⊎ ((l.reader ≡ l.fn.reader) × (g.S.Station.exchanges l.station ≡ g.S.Station.exchanges l.fn.station) × (l.replies.end.put ≡ l.fn.replies.end.put));
  stays : g.S.Station.same l.fn.station l.station;
  outlet : l.replies.end.outlet ≡ l.fn.replies.end.outlet;
  side : l.replies.end.side ≡ l.fn.replies.end.side;
}
