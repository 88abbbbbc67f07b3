use Rattle.std.specs.Prelude.{◌≡◌, ◌+◌, ◌≤◌, ◌++◌, map, length, vec_len, vec_capacity}
use Rattle.std.specs.Vec.Iter.{into_iter_items, into_iter_len}
use Rattle.xcp_locked.proofs.PairedListLemmas.{first_of}
use Rattle.xcp_server.proofs.dealing.dismiss.Given as goal

abbrev pub invariant-loop-worker : goal.invariant-loop-worker
invariant-loop-worker g l =
    let rest = l.worker-iterator in let first = l.initial.worker-iterator in
    (l.yielded ++ into_iter_items rest ≡ into_iter_items first)
    × (into_iter_len rest ≡ length (into_iter_items rest))
    × (vec_len l.callers + into_iter_len rest ≤ vec_capacity l.callers)
    × (l.callers.items ≡ l.initial.callers.items ++ map (λ w. w.caller) l.yielded)
    × (vec_capacity l.callers ≡ vec_capacity l.initial.callers)
    × (vec_len l.readers + into_iter_len rest ≤ vec_capacity l.readers)
    × (l.readers.items ≡ l.initial.readers.items ++ map (λ w. w.reader) l.yielded)
    × (vec_capacity l.readers ≡ vec_capacity l.initial.readers)
    × (l.chapters ≡ first_of (λ w. w.chapters) l.yielded)
