use Rattle.std.specs.Prelude.{◌≡◌, ◌+◌, ◌≤◌, ◌++◌, ℕ, length, map, vec_len, vec_capacity}
use Rattle.std.specs.Vec.Iter.{into_iter_items, into_iter_len}
use Rattle.xcp_server.specs.private.Dispatching.{before_at, failures_at, outlet_at}
use Rattle.xcp_server.proofs.dispatching.open_dispatches.Given as goal

-- the outlets and the writers that are left are those of the places from here on
abbrev pub invariant-loop-reader : goal.invariant-loop-reader
invariant-loop-reader g l =
    let rest = l.reader-iterator in let first = l.initial.reader-iterator in
    (l.yielded ++ into_iter_items rest ≡ into_iter_items first)
    × (into_iter_len rest ≡ length (into_iter_items rest))
    × (l.place + into_iter_len rest ≡ vec_len l.fn.streams)
    × (into_iter_len rest ≡ length (into_iter_items l.outlets))
    × (vec_len l.readers + into_iter_len rest ≤ vec_capacity l.readers)
    × (vec_len l.ends + into_iter_len rest ≤ vec_capacity l.ends)
    × (vec_len l.dispatches + into_iter_len rest ≤ vec_capacity l.dispatches)
    × (vec_len l.dispatches ≡ l.place)
    × (l.readers.items ≡ map (λ s. s.0) l.yielded)
    × (l.ends.items ++ map (λ e. (e.0, e.1)) (into_iter_items l.outlets) ≡ map (λ e. (e.0, e.1)) l.fn.outlets.items)
    × ((i : ℕ) → g.L.LineName.outlet (l.place + i) ≡ outlet_at (into_iter_items l.outlets) i)
    × ((i : ℕ) → g.L.LineName.before (l.place + i) ≡ before_at g.O.Write.contents (into_iter_items rest) i)
    × ((i : ℕ) → g.L.LineName.failures (l.place + i) ≡ failures_at (into_iter_items rest) i)
