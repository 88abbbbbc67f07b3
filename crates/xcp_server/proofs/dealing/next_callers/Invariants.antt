use Rattle.std.specs.Prelude.{◌≡◌, ◌+◌, ◌≤◌, ◌++◌, length, vec_len, vec_capacity}
use Rattle.std.specs.Vec.Iter.{into_iter_items}
use Rattle.xcp_server.proofs.dealing.next_callers.Given as goal

abbrev pub invariant-loop-one : goal.invariant-loop-one
invariant-loop-one g l =
    (vec_len l.taken ≡ l._one)
    × (l.count ≤ vec_capacity l.taken)
    × (l.taken.items ++ into_iter_items l.callers ≡ into_iter_items l.fn.callers)
    × (l.count ≤ l._one + length (into_iter_items l.callers))
