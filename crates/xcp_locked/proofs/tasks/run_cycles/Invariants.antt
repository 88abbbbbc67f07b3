use Rattle.std.proofs.Common.{◌≡◌, ◌+◌, ℕ, true}
use Rattle.xcp_locked.specs.TaskImages.{Took}
use Rattle.xcp_locked.specs.Tasks.{Grew, HasCut, IsFresh, Same, duty}
use Rattle.xcp_locked.proofs.tasks.run_cycles.Given as goal

abbrev pub invariant-loop-n : goal.invariant-loop-n
invariant-loop-n g l =
    Grew (duty l.fn.worker.caller l.task) l.n true l.fn.worker.caller.receipts l.worker.caller.receipts
    × Same l.fn.worker.caller l.worker.caller
    × Took l.n true l.fn.worker.reader l.worker.reader l.fn.worker.last l.worker.last
    × HasCut l.n l.chapter l.task l.fn.worker.chapters l.worker.chapters
    × ((last : ℕ) → l.n ≡ last + 1 → IsFresh g.N.Name.layout (duty l.fn.worker.caller l.task) last l.fn.worker.caller.number l.worker.caller.receipts l.worker.reader)
