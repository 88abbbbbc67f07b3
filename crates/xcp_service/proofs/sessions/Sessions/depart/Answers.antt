use Rattle.std.proofs.Common.{◌∙◌, ◌==◌, ℕ, ap, not, rules, subst, sym}
use Rattle.arrayvec.proofs.ArrayVecLemmas.{filter-from_retain}
use Rattle.xcp_service.specs.Sessions.{without}
use Rattle.xcp_service.specs.private.Seats.{AreSeats}
use Rattle.xcp_service.proofs.SessionLemmas.{seats_without}
use Rattle.xcp_service.proofs.sessions.Sessions.depart.Goals as goal

pub invariant_of-self : goal.invariant_of-self
invariant_of-self c =
    subst AreSeats (sym (filter-from_retain _ (λ (s : ℕ). not (s == c.args.seat)) _ (λ x b f' y called. search rules) _ _ c.retain.ensures.filtered))
    (seats_without c.args.seat c.self.inside.seats.items c.self.invariant)

pub returns : goal.returns
returns c =
    filter-from_retain _ (λ (s : ℕ). not (s == c.args.seat)) _ (λ x b f' y called. search rules) _ _ c.retain.ensures.filtered
    ∙ ap (without c.args.seat) c.self.view_is
