use Rattle.std.proofs.Common.{◌≤◌, ◌*◌, Ok}
use Rattle.xcp_framing.specs.private.HeldPump.{PumpsHeld}
use Rattle.xcp_framing.proofs.pumping.pump_turns.Given as goal

abbrev pub invariant-loop-turn : goal.invariant-loop-turn
invariant-loop-turn g l = record {
  pumps : PumpsHeld (Ok l.count) (g.S.Station.exchanges l.fn.station) (g.S.Station.exchanges l.station) (g.E.End.put_so_far l.fn.end) l.fn.batch (g.E.End.put_so_far l.end) l.batch;
  stays : g.S.Station.same l.fn.station l.station;
  kept : g.E.End.same l.fn.end l.end;
  bound : l.count ≤ 37 * 64 * l._turn;
}
