use Rattle.std.specs.Prelude.{◌≡◌, ◌+◌, ◌≤◌, ◌++◌, length, vec_len, vec_capacity}
use Rattle.std.specs.Vec.Iter.{into_iter_items, into_iter_len}
use Rattle.xcp_locked.specs.PairedLists.{EachFrom}
use Rattle.xcp_server.specs.private.Dispatching.{IsPartedAt}
use Rattle.xcp_server.proofs.dispatching.finish_each.Given as goal

abbrev pub invariant-loop-heard : goal.invariant-loop-heard
invariant-loop-heard g l =
    let rest = l.heard-iterator in let first = l.initial.heard-iterator in
    (l.yielded ++ into_iter_items rest ≡ into_iter_items first)
    × (into_iter_len rest ≡ length (into_iter_items rest))
    × (l.place + into_iter_len rest ≡ vec_len l.fn.parted)
    × (into_iter_len rest ≡ length (into_iter_items l.dispatches))
    × (vec_len l.finished + into_iter_len rest ≤ vec_capacity l.finished)
    × (l.place ≡ length l.yielded)
    × EachFrom (IsPartedAt g.O.Write.contents g.L.LineName.outlet g.L.LineName.before g.L.LineName.failures) 0 l.yielded l.finished.items
