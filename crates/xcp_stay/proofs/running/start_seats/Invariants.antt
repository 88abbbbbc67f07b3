use Rattle.std.specs.Prelude.{◌≡◌, ◌+◌, ◌≤◌, ◌++◌, length, map, vec_len, vec_capacity}
use Rattle.std.specs.Vec.Iter.{into_iter_items, into_iter_len}
use Rattle.xcp_stay.proofs.running.start_seats.Given as goal

abbrev pub invariant-loop-seat : goal.invariant-loop-seat
invariant-loop-seat g l =
    (into_iter_len l.seat-iterator ≡ length (into_iter_items l.seat-iterator))
    × (vec_len l.handles + into_iter_len l.seat-iterator ≡ into_iter_len l.initial.seat-iterator)
    × (vec_len l.handles + into_iter_len l.seat-iterator ≤ vec_capacity l.handles)
    × (map (λ h. h.promise.0.value) l.handles.items ++ into_iter_items l.seat-iterator ≡ into_iter_items l.initial.seat-iterator)
