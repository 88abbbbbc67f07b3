-- What a task of a controller that stays does, cycle by cycle.
use Rattle.std.specs.Prelude.{◌≡◌, ◌⊎◌, ◌+◌, ◌%◌, ◌^◌, ℕ, Bool, List, [], ◌∷◌, ◌++◌, length, MatchBool}
use Rattle.xcp_memory.specs.EcuImage.{image_size}
use Rattle.xcp_memory.specs.Layout.{LayoutValue}
use Rattle.xcp_bank.specs.BankEnds.{ReaderEnd}
use Rattle.xcp_locked.specs.Caller.{CallerValue}
use Rattle.xcp_locked.specs.TaskImages.{IsNotOlder, Took}
use Rattle.xcp_locked.specs.Tasks.{Duty, Same, closing_of, duty, cycle_event, receipt_requests}
use Rattle.xcp_locked.specs.declared.receipt.Receipt.{Receipt}
use Rattle.xcp_seats.specs.Trails.{Repeats}

-- where a task stands: the number of its cycle, modulo 2^64, its caller, its reader, and the image that it read last
pub record TaskAt : Type 0 where
  pub cycle : ℕ
  pub caller : CallerValue
  pub reader : ReaderEnd
  pub image : List ℕ

abbrev pub task_at : ℕ → CallerValue → ReaderEnd → List ℕ → TaskAt
task_at cycle caller reader image = record { cycle = cycle; caller = caller; reader = reader; image = image }

-- a task, with its number
pub record TaskValue : Type 0 where
  pub task : ℕ
  pub caller : CallerValue
  pub reader : ReaderEnd

-- The event of a cycle: on the task's channel, with all signals as the cycle's number says. Its receipt came behind those that the caller
-- had, and the image that was taken behind it isn't older.
pub record Raised (layout : LayoutValue) (p : Duty) (cycle caller : ℕ) (old new : List Receipt) (reader : ReaderEnd) : Type 0 where
  pub call : Receipt
  pub added : new ≡ old ++ call ∷ []
  pub asked : call.request ≡ cycle_event p (cycle % 256)
  pub image : IsNotOlder layout caller call reader

-- One cycle of a task: its event was submitted, unless it was refused, and an image was taken and read, which isn't older than the event,
-- nor than what the reader had seen before; behind it task 0 finished a store, unless that was refused.
pub record Ticked (layout : LayoutValue) (task : ℕ) (old new : TaskAt) : Type 0 where
  pub next : new.cycle ≡ (old.cycle + 1) % 2 ^ 64
  pub same : Same old.caller new.caller
  -- the receipts behind the event, and what was added to them
  pub mid : List Receipt
  pub accepted : Bool
  pub raised : MatchBool accepted (Raised layout (duty old.caller task) old.cycle old.caller.number old.caller.receipts mid new.reader) (mid ≡ old.caller.receipts)
  pub stored : List Receipt
  pub grown : new.caller.receipts ≡ mid ++ stored
  pub closes : (stored ≡ []) ⊎ (receipt_requests stored ≡ closing_of (duty old.caller task))
  -- the reader's steps, and the image that it read
  pub took : Took 1 accepted old.reader new.reader old.image new.image
  -- which is a whole one, so that the reader holds one where the event was accepted
  pub whole : length new.image ≡ image_size layout

-- All that a task did from its first cycle on: cycle behind cycle.
pub record Ticks (layout : LayoutValue) (task : ℕ) (caller caller' : CallerValue) (reader reader' : ReaderEnd) : Type 0 where
  pub cycle : ℕ
  pub image : List ℕ
  pub image' : List ℕ
  pub cycles : Repeats (Ticked layout task) (task_at 0 caller reader image) (task_at cycle caller' reader' image')
