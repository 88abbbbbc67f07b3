-- Tasks that ran, one by one.
use Rattle.std.proofs.Common.{◌≡◌, ℕ, List, [], ◌∷◌, ◌++◌, refl, ap, ◌∙◌, subst}
use Rattle.std.specs.Prelude.{Option, Some, None, is_none, true, unwrap_or}
use Rattle.std.specs.Option.{option_or}
use Rattle.xcp_memory.specs.Layout.{LayoutValue}
use Rattle.xcp_locked.specs.declared.tasks.TaskError.{TaskError}
use Rattle.xcp_locked.specs.declared.tasks.TaskError.TheVariants as faults
use Rattle.xcp_locked.specs.declared.tasks.Done.{Done}
use Rattle.xcp_locked.specs.declared.worker.Worker.{Worker}
use Rattle.xcp_locked.specs.Excerpts.{ChaptersValue, none_cut}
use Rattle.xcp_locked.specs.TaskOutcome.{chapters_of, first_task_fault}
use Rattle.xcp_locked.specs.Tasks.{IsOwn, Worked}
use Rattle.xcp_locked.proofs.PairedListLemmas.{first_of}

first_of_three : (a b c : Option TaskError) → option_or a (option_or b c) ≡ option_or (option_or a b) c
first_of_three None b c = refl
first_of_three (Some e) b c = refl

nothing_behind : (a : Option TaskError) → option_or a None ≡ a
nothing_behind None = refl
nothing_behind (Some e) = refl

-- one more task's fault comes behind the others
pub first_fault-more : {N : Type 0} (done : List (Done N)) (d : Done N) → first_task_fault (done ++ d ∷ []) ≡ option_or (first_task_fault done) d.fault
first_fault-more [] d = nothing_behind d.fault
first_fault-more (x ∷ done) d = ap (λ z. option_or x.fault z) (first_fault-more done d) ∙ first_of_three x.fault (first_task_fault done) d.fault

-- what a task did, said of its worker
pub worked_as : {N : Type 0} (layout : LayoutValue) (may_end : Type 0) (cycles cycles' chapter chapter' task task' : ℕ) (w w' new : Worker N) (fault : Option TaskError) → task' ≡ task → cycles' ≡ cycles → chapter' ≡ chapter → w' ≡ w → Worked layout may_end cycles' chapter' task' w' new fault → Worked layout may_end cycles chapter task w new fault
worked_as {N} layout may_end cycles cycles' chapter chapter' task task' w w' new fault t n k e h =
    subst (λ (x : Worker N). Worked layout may_end cycles chapter task x new fault) e
    (subst (λ (i : ℕ). Worked layout may_end cycles i task w' new fault) k (subst (λ (i : ℕ). Worked layout may_end i chapter' task w' new fault) n (subst (λ (i : ℕ). Worked layout may_end cycles' chapter' i w' new fault) t h)))

-- a fault that no gate gave is the task's own, whatever its gate may do
pub own_anyway : (may_end : Type 0) (task : ℕ) (f : TaskError) → IsOwn ⊥ task f → IsOwn may_end task f
own_anyway may_end task faults.Memory h = tt
own_anyway may_end task faults.JournalFull h = tt
own_anyway may_end task (faults.GateSpent of) h = absurd h.1

-- a fault that is there stays the first
pub first_stays : (a b : Option TaskError) → ¬ (a ≡ None) → option_or a b ≡ a
first_stays None b h = absurd (h refl)
first_stays (Some e) b h = refl

-- nothing was told
pub none_left : {A : Type 0} (o : Option A) → ((x : A) → o ≡ Some x → ⊥) → is_none o ≡ true
none_left None h = refl
none_left (Some x) h = absurd (h x refl)

-- the first worker's chapters, or else none
pub first_chapters : {N : Type 0} (workers : List (Worker N)) (none : ChaptersValue) → none ≡ none_cut None → unwrap_or (first_of (λ w. w.chapters) workers) none ≡ chapters_of workers
first_chapters [] none empty = empty
first_chapters (w ∷ workers) none empty = refl
