use Rattle.std.specs.Prelude.{◌≡◌, ◌+◌, ◌≤◌, ◌++◌, length, vec_len, vec_capacity}
use Rattle.std.specs.Vec.Iter.{into_iter_items}
use Rattle.xcp_stay.proofs.dealing.next_members.Given as goal

abbrev pub invariant-loop-one : goal.invariant-loop-one
invariant-loop-one g l =
    (vec_len l.taken ≡ l._one)
    × (l.count ≤ vec_capacity l.taken)
    × (l.taken.items ++ into_iter_items l.members ≡ into_iter_items l.fn.members)
    × (l.count ≤ l._one + length (into_iter_items l.members))
