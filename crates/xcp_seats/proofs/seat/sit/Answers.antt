use Rattle.std.proofs.Common.{subst}
use Rattle.xcp_seats.proofs.TrailLemmas.{one_more}
use Rattle.xcp_seats.specs.Seating.{SeatValue, Visits, pair}
use Rattle.xcp_seats.proofs.seat.sit.Goals as goal

pub loop-visit-preserved : goal.loop-visit-preserved
loop-visit-preserved g c =
    let before = pair c.loop-visit.left.tool c.loop-visit.left.pump in
    let after = pair c.visit-left.result.tool c.visit-left.result.pump in
    let step = subst (λ (v : SeatValue). Visits v.max_cto before after) c.seat.view_is c.visit-left.ensures in
    one_more (Visits c.args.seat.max_cto) (pair c.args.seat.tool c.args.seat.pump) before after c.loop-visit.invariant step
