use Rattle.std.proofs.Common.{◌∙◌, ◌<◌, arith, subst, sym}
use Rattle.xcp_service.specs.private.Seats.{AreSeats}
use Rattle.xcp_service.proofs.SessionLemmas.{room, seats_more}
use Rattle.xcp_service.proofs.sessions.Sessions.connect.Goals as goal

pub insert-requires : goal.insert-requires
insert-requires c =
    let lt : c.args.seat < 256 = omega (arith, c.ranges.seat.fits) in
    (omega arith, (omega arith, room c.args.seat c.args.self.now c.self.inside.seats.items (c.self.view_is ∙ c.depart.ensures) lt c.self.invariant))

pub invariant_of-self : goal.invariant_of-self
invariant_of-self c =
    let lt : c.args.seat < 256 = omega (arith, c.ranges.seat.fits) in
    subst AreSeats (sym c.insert.ensures.items) (seats_more c.args.seat c.args.self.now c.self.inside.seats.items (c.self.view_is ∙ c.depart.ensures) lt c.self.invariant)
