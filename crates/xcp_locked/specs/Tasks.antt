-- What a task submits.
use Rattle.std.specs.Prelude.{◌≡◌, ◌≢◌, ◌≤◌, ◌+◌, ℕ, zero, suc, ◌%◌, Bool, true, false, List, [], ◌∷◌, ◌++◌, map, length, ◌==◌, if◌then◌else◌, replicate, Option, is_none, IfSome, All, ⊤}
use Rattle.xcp_slave.specs.declared.Request.{Request}
use Rattle.xcp_slave.specs.declared.Request.TheVariants as requests
use Rattle.xcp_locked.specs.declared.receipt.Receipt.{Receipt}
use Rattle.xcp_locked.specs.declared.errors.LockedError.{LockedError}
use Rattle.xcp_locked.specs.declared.errors.LockedError.TheVariants as refusals
use Rattle.xcp_locked.specs.declared.tasks.TaskError.{TaskError}
use Rattle.xcp_locked.specs.declared.tasks.TaskError.TheVariants as faults
use Rattle.xcp_locked.specs.declared.worker.Worker.{Worker}
use Rattle.xcp_locked.specs.Caller.{CallerValue}
use Rattle.xcp_locked.specs.Excerpts.{ChaptersValue, cuts_at_stores}
use Rattle.xcp_locked.specs.LockedSlave.{ChapterValue}
use Rattle.xcp_memory.specs.Layout.{LayoutValue}
use Rattle.xcp_bank.specs.BankEnds.{ReaderEnd}
use Rattle.xcp_locked.specs.TaskImages.{IsNotOlder, Took}

-- A task's duty: by how many event channels and how many bytes of signals it goes, and its number.
pub record Duty : Type 0 where
  pub events : ℕ
  pub signals : ℕ
  pub task : ℕ

abbrev pub duty : CallerValue → ℕ → Duty
duty c task = record { events = c.events; signals = c.signals; task = task }

-- the requests of receipts, in order
abbrev pub receipt_requests : List Receipt → List Request
receipt_requests receipts = map (λ (r : Receipt). r.request) receipts

-- the event of a cycle: on the task's channel, with all signals that it hands over as the cycle's number says
abbrev pub cycle_event : Duty → ℕ → Request
cycle_event p cycle = requests.Event (p.task % p.events) (record { items = replicate p.signals (cycle % 256) })

-- task 0 finishes a store too
abbrev pub closing_of : Duty → List Request
closing_of p = if p.task == 0 then requests.FinishStore ∷ [] else []

abbrev pub cycle_of : Duty → ℕ → List Request
cycle_of p cycle = cycle_event p cycle ∷ closing_of p

-- what so many cycles submit, in order
abbrev pub plan : Duty → ℕ → List Request
plan p zero = []
plan p (suc n) = plan p n ++ cycle_of p n

-- The receipts grew by a beginning of the plan, and by all of it where the task did its whole work.
pub record Grew (p : Duty) (cycles : ℕ) (whole : Bool) (old new : List Receipt) : Type 0 where
  pub more : List Receipt
  pub new_is : new ≡ old ++ more
  pub rest : List Request
  pub planned : plan p cycles ≡ receipt_requests more ++ rest
  pub all : whole ≡ true → rest ≡ []

-- the caller is the same one: its receipts, and how many of its calls were accepted, may be others
pub record Same (old new : CallerValue) : Type 0 where
  pub number : new.number ≡ old.number
  pub events : new.events ≡ old.events
  pub signals : new.signals ≡ old.signals

-- a refusal as a task's fault
abbrev pub refused_with : LockedError → TaskError
refused_with refusals.Memory = faults.Memory
refused_with refusals.JournalFull = faults.JournalFull
refused_with refusals.LastChapter = faults.JournalFull
refused_with refusals.Earlier = faults.JournalFull

-- a gate's end names its own task, and comes only of a gate that may end one
abbrev pub IsOwn : Type 0 → ℕ → TaskError → Type 0
IsOwn may_end task faults.Memory = ⊤
IsOwn may_end task faults.JournalFull = ⊤
IsOwn may_end task (faults.GateSpent of) = (of ≡ task) × may_end

-- What a task has cut in so many cycles stands behind what it had cut before: at most one chapter a cycle, each of at least so many
-- calls, unless stores end chapters too. Only task 0 cuts. Excerpts go by the same way as before.
pub record HasCut (cycles chapter task : ℕ) (old new : ChaptersValue) : Type 0 where
  pub more : List ChapterValue
  pub new_is : new.items ≡ old.items ++ more
  pub one_a_cycle : length more ≤ cycles
  pub full : cuts_at_stores old.way ≡ false → All (λ (c : ChapterValue). chapter ≤ length c.entries) more
  pub first_only : task ≢ 0 → more ≡ []
  pub way : new.way ≡ old.way

-- Of a cycle, the last one: the receipt of its event, behind which task 0 has that of its store, and an image that isn't older than
-- the event.
pub record IsFresh (layout : LayoutValue) (p : Duty) (cycle caller : ℕ) (receipts : List Receipt) (reader : ReaderEnd) : Type 0 where
  pub front : List Receipt
  pub event : Receipt
  pub closing : List Receipt
  pub joined : receipts ≡ front ++ event ∷ closing
  pub asked : event.request ≡ cycle_event p cycle
  pub closed : receipt_requests closing ≡ closing_of p
  pub image : IsNotOlder layout caller event reader

-- what a task of so many cycles did: its caller's receipts grew by its plan, where it has a fault by a beginning of it,
-- without a fault its reader looked for an image in each cycle, and holds one that isn't older than its last event, and task 0 has
-- cut chapters of at least so many calls
pub record Worked {N : Type 0} (layout : LayoutValue) (may_end : Type 0) (cycles chapter task : ℕ) (old new : Worker N) (fault : Option TaskError) : Type 0 where
  pub grew : Grew (duty old.caller task) cycles (is_none fault) old.caller.receipts new.caller.receipts
  pub same : Same old.caller new.caller
  pub took : Took cycles (is_none fault) old.reader new.reader old.last new.last
  pub fresh : is_none fault ≡ true → (last : ℕ) → cycles ≡ last + 1 → IsFresh layout (duty old.caller task) last old.caller.number new.caller.receipts new.reader
  pub cut : HasCut cycles chapter task old.chapters new.chapters
  pub own : IfSome fault (IsOwn may_end task)
