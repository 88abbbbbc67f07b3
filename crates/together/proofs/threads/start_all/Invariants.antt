use Rattle.std.specs.Prelude.{◌≡◌, ℕ, ◌+◌, ◌<◌, ◌≤◌, get_or, vec_items, vec_len, vec_capacity}
use Rattle.std.specs.Vec.Iter.{into_iter_items, into_iter_len}
use Rattle.together.proofs.threads.start_all.Given as goal

abbrev pub invariant-loop-work : goal.invariant-loop-work
invariant-loop-work g l =
    let stand = vec_len l.handles in let rest = l.work-iterator in let first = l.initial.work-iterator in
    (stand + into_iter_len rest ≡ into_iter_len first)
    × ((k : ℕ) (d : _) → k < into_iter_len rest → get_or (into_iter_items rest) k d ≡ get_or (into_iter_items first) (stand + k) d)
    × ((k : ℕ) (w h : _) → k < stand → (get_or (vec_items l.handles) k h).promise.0.value ≡ get_or (into_iter_items first) k w)
    × (into_iter_len first ≤ vec_capacity l.handles)
