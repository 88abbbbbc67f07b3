use Rattle.std.specs.Prelude.{◌≡◌, ◌+◌, ◌≤◌, ◌++◌, [], All, map, length, vec_len, vec_capacity}
use Rattle.std.specs.Vec.Iter.{into_iter_items}
use Rattle.xcp_locked.specs.Excerpts.{HandsNone, way_of}
use Rattle.xcp_server.proofs.WrittenChapterLemmas.{GoesTo}
use Rattle.xcp_server.proofs.dealing.employ.Given as goal

abbrev pub invariant-loop-task : goal.invariant-loop-task
invariant-loop-task g l =
    (vec_len l.workers ≡ l._task)
    × (l.tasks ≤ vec_capacity l.workers)
    × (map (λ w. w.caller) l.workers.items ++ into_iter_items l.callers ≡ into_iter_items l.fn.callers)
    × (l.tasks ≤ l._task + length (into_iter_items l.callers))
    × (map (λ w. w.reader) l.workers.items ++ into_iter_items l.readers ≡ into_iter_items l.fn.readers)
    × (l.tasks ≤ l._task + length (into_iter_items l.readers))
    × All (λ w. w.chapters.items ≡ []) l.workers.items
    × HandsNone l.handing
    × GoesTo (way_of l.fn.handing) (way_of l.handing) l.workers.items
