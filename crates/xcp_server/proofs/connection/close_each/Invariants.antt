use Rattle.std.specs.Prelude.{◌≡◌, ◌+◌, ◌≤◌, ◌++◌, length, vec_len, vec_capacity}
use Rattle.std.specs.Vec.Iter.{into_iter_items, into_iter_len}
use Rattle.xcp_connection.specs.Closing.{AreOfOneOutlet}
use Rattle.xcp_server.specs.private.ConnectionParts.{IsEndOf}
use Rattle.std.specs.List.{AllByRecursion, AllZip}
use Rattle.xcp_server.proofs.connection.close_each.Given as goal

abbrev pub invariant-loop-one : goal.invariant-loop-one
invariant-loop-one g l =
    let rest = l.one-iterator in let first = l.initial.one-iterator in
    (l.yielded ++ into_iter_items rest ≡ into_iter_items first)
    × (into_iter_len rest ≡ length (into_iter_items rest))
    × (vec_len l.closed + into_iter_len rest ≤ vec_capacity l.closed)
    × AllByRecursion AreOfOneOutlet (into_iter_items rest)
    × AllZip IsEndOf l.yielded l.closed.items
