use Rattle.std.specs.Prelude.{◌≡◌, ℕ, ◌+◌, ◌<◌, ◌≤◌, get_or, vec_items, vec_len, vec_capacity}
use Rattle.std.specs.Vec.Iter.{into_iter_items, into_iter_len}
use Rattle.together.specs.private.StandingCrews.{CrewStands}
use Rattle.together.proofs.crews.start_crews.Given as goal

abbrev pub invariant-loop-crew : goal.invariant-loop-crew
invariant-loop-crew g l =
    let stand = vec_len l.handles in let rest = l.crew-iterator in let first = l.initial.crew-iterator in
    (stand + into_iter_len rest ≡ into_iter_len first)
    × ((k : ℕ) (d : _) → k < into_iter_len rest → get_or (into_iter_items rest) k d ≡ get_or (into_iter_items first) (stand + k) d)
    × ((k : ℕ) (w h : _) → k < stand → CrewStands (get_or (into_iter_items first) k w) (get_or (vec_items l.handles) k h))
    × (into_iter_len first ≤ vec_capacity l.handles)
