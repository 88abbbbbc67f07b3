use Rattle.std.specs.Prelude.{◌≡◌, ◌+◌, ◌≤◌, ◌++◌, map, length, vec_len, vec_capacity}
use Rattle.std.specs.Vec.Iter.{into_iter_items, into_iter_len}
use Rattle.xcp_locked.specs.TaskOutcome.{first_task_fault}
use Rattle.xcp_locked.proofs.running.collect_workers.Given as goal

abbrev pub invariant-loop-one : goal.invariant-loop-one
invariant-loop-one g l =
    let rest = l.one-iterator in let first = l.initial.one-iterator in
    (l.yielded ++ into_iter_items rest ≡ into_iter_items first)
    × (into_iter_len rest ≡ length (into_iter_items rest))
    × (vec_len l.workers + into_iter_len rest ≤ vec_capacity l.workers)
    × (l.workers.items ≡ map (λ d. d.worker) l.yielded)
    × (l.fault ≡ first_task_fault l.yielded)
