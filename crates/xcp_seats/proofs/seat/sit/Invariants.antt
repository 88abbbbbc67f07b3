use Rattle.xcp_seats.specs.Seating.{Sat, pair}
use Rattle.xcp_seats.proofs.seat.sit.Given as goal

abbrev pub invariant-loop-visit : goal.invariant-loop-visit
invariant-loop-visit g l = Sat l.fn.seat.max_cto (pair l.fn.seat.tool l.fn.seat.pump) (pair l.left.tool l.left.pump)
