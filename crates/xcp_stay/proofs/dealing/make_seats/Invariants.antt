use Rattle.std.specs.Prelude.{◌≡◌, ◌+◌, ◌≤◌, ◌++◌, All, length, map, vec_len, vec_capacity}
use Rattle.std.specs.Vec.Iter.{into_iter_items}
use Rattle.xcp_stay.specs.Team.{SeatsFrom}
use Rattle.xcp_stay.proofs.dealing.make_seats.Given as goal

abbrev pub invariant-loop-number : goal.invariant-loop-number
invariant-loop-number g l =
    (vec_len l.seats ≡ l.number)
    × (l.plan.tools ≤ vec_capacity l.seats)
    × (l.plan.tools ≡ l.number + length (into_iter_items l.tools))
    × (l.plan.tools ≡ l.number + length (into_iter_items l.pumps))
    × (map (λ s. s.tool) l.seats.items ++ into_iter_items l.tools ≡ into_iter_items l.initial.tools)
    × (map (λ s. s.pump) l.seats.items ++ into_iter_items l.pumps ≡ into_iter_items l.initial.pumps)
    × All (λ s. s.max_cto ≡ l.max_cto) l.seats.items
    × SeatsFrom 0 l.seats.items
