-- What comes of tasks that run at the same time.
use Rattle.std.specs.Prelude.{◌≡◌, ℕ, List, [], ◌∷◌, map, Option, None}
use Rattle.std.specs.Option.{option_or}
use Rattle.xcp_memory.specs.Layout.{LayoutValue}
use Rattle.xcp_locked.specs.declared.tasks.Task.{Task}
use Rattle.xcp_locked.specs.declared.tasks.TaskError.{TaskError}
use Rattle.xcp_locked.specs.declared.worker.Worker.{Worker}
use Rattle.xcp_locked.specs.declared.tasks.Done.{Done}
use Rattle.xcp_locked.specs.declared.tasks.Ran.{Ran}
use Rattle.xcp_locked.specs.Excerpts.{ChaptersValue, none_cut}
use Rattle.xcp_locked.specs.PairedLists.{EachFrom}
use Rattle.xcp_locked.specs.Tasks.{Worked}

-- what came of the worker's task of this number
abbrev pub WorkedAs : {N : Type 0} → LayoutValue → Type 0 → ℕ → ℕ → ℕ → Worker N → Done N → Type 0
WorkedAs layout may_end cycles chapter task w d = Worked layout may_end cycles chapter task w d.worker d.fault

-- the task of this number and so many cycles, which cuts chapters of so many calls, for a worker
pub record IsTaskOf {N G : Type 0} (cycles chapter task : ℕ) (w : Worker N) (t : Task N G) : Type 0 where
  pub number : t.task ≡ task
  pub cycles_are : t.cycles ≡ cycles
  pub chapter_is : t.chapter ≡ chapter
  pub worker : t.worker ≡ w

-- what came of a task
abbrev pub DoneAs : {N G : Type 0} → LayoutValue → Type 0 → Task N G → Done N → Type 0
DoneAs layout may_end t d = Worked layout may_end t.cycles t.chapter t.task t.worker d.worker d.fault

-- the fault of the least task number that has one
abbrev pub first_task_fault : {N : Type 0} → List (Done N) → Option TaskError
first_task_fault [] = None
first_task_fault (d ∷ more) = option_or d.fault (first_task_fault more)

-- the chapters that the first worker has cut, or none where there is no worker
abbrev pub chapters_of : {N : Type 0} → List (Worker N) → ChaptersValue
chapters_of [] = none_cut None
chapters_of (w ∷ more) = w.chapters

-- One task for each worker, numbered from 0: all workers come back, each having done what its task has, and the fault is that
-- of the least task number. `may_end` says that the gate may end a task.
pub record RanTasks {N : Type 0} (layout : LayoutValue) (may_end : Type 0) (cycles chapter : ℕ) (workers : List (Worker N)) (r : Ran N) : Type 0 where
  pub done : List (Done N)
  pub worked : EachFrom (WorkedAs layout may_end cycles chapter) 0 workers done
  pub back : r.workers.items ≡ map (λ d. d.worker) done
  pub fault : r.fault ≡ first_task_fault done
