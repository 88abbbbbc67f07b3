use Rattle.std.specs.Prelude.{◌≡◌, ℕ, ◌+◌, ◌<◌, ◌≤◌, get_or, vec_items, vec_len, vec_capacity}
use Rattle.std.specs.Vec.Iter.{into_iter_items, into_iter_len}
use Rattle.together.specs.private.StandingCrews.{KeepsCrewAt}
use Rattle.together.proofs.crews.join_crews.Given as goal

abbrev pub invariant-loop-handle : goal.invariant-loop-handle
invariant-loop-handle g l =
    let done = vec_len l.results in let rest = l.handle-iterator in let first = l.initial.handle-iterator in
    (done + into_iter_len rest ≡ into_iter_len first)
    × ((k : ℕ) (d : _) → k < into_iter_len rest → get_or (into_iter_items rest) k d ≡ get_or (into_iter_items first) (done + k) d)
    × ((k : ℕ) (t : _) → k < done → KeepsCrewAt g.P.Promise g.Q.Promise (into_iter_items first) k (get_or (vec_items l.results) k t))
    × (into_iter_len first ≤ vec_capacity l.results)
