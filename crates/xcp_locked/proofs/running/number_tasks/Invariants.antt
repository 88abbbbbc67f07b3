use Rattle.std.specs.Prelude.{◌≡◌, ◌+◌, ◌≤◌, ◌++◌, length, vec_len, vec_capacity}
use Rattle.std.specs.Vec.Iter.{into_iter_items, into_iter_len}
use Rattle.xcp_locked.specs.PairedLists.{EachFrom}
use Rattle.xcp_locked.specs.TaskOutcome.{IsTaskOf}
use Rattle.xcp_locked.proofs.running.number_tasks.Given as goal

abbrev pub invariant-loop-worker : goal.invariant-loop-worker
invariant-loop-worker g l =
    let rest = l.worker-iterator in let first = l.initial.worker-iterator in
    (l.yielded ++ into_iter_items rest ≡ into_iter_items first)
    × (into_iter_len rest ≡ length (into_iter_items rest))
    × (vec_len l.tasks + into_iter_len rest ≤ vec_capacity l.tasks)
    × EachFrom (IsTaskOf l.cycles l.chapter) 0 l.yielded l.tasks.items
    × (l.task ≡ length l.yielded)
    × (l.task + into_iter_len rest ≤ 16)
