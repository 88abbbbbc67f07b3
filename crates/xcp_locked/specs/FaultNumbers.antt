-- The numbers of errors.
use Rattle.std.specs.Prelude.{ℕ}
use Rattle.xcp_locked.specs.declared.errors.LockedError.{LockedError}
use Rattle.xcp_locked.specs.declared.errors.LockedError.TheVariants as refusals
use Rattle.xcp_locked.specs.declared.tasks.TaskError.{TaskError}
use Rattle.xcp_locked.specs.declared.tasks.TaskError.TheVariants as faults

-- the number of a refusal
abbrev pub locked_number : LockedError → ℕ
locked_number refusals.Memory = 1
locked_number refusals.JournalFull = 2
locked_number refusals.LastChapter = 4
locked_number refusals.Earlier = 5

-- the number of a task's fault
abbrev pub task_number : TaskError → ℕ
task_number faults.Memory = 1
task_number faults.JournalFull = 2
task_number (faults.GateSpent task) = 4
