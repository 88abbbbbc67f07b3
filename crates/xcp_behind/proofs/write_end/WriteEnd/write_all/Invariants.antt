use Rattle.std.specs.Prelude.{◌≡◌}
use Rattle.std.specs.Arc.{arc_value}
use Rattle.std.specs.Io.KnownBytes.{Appends}
use Rattle.relay.specs.Ends.{items_of}
use Rattle.xcp_behind.specs.Writing.{joined_pieces}
use Rattle.xcp_behind.proofs.write_end.WriteEnd.write_all.Given as goal

abbrev pub invariant-loop-turn : goal.invariant-loop-turn
invariant-loop-turn g l =
    (l.taker.relay ≡ (arc_value l.backlog).relay)
    × (l.taker.givers ≡ 1)
    × (l.taker.relay ≡ l.fn.self.relay)
    × Appends (g.W.Write.contents l.start.value) (g.W.Write.contents l.stream) (joined_pieces (items_of 0 l.taker.taken))
