-- The end of a server's session.
use Rattle.std.specs.Prelude.{ℕ, ◌≡◌, ◌⊎◌, List, [], ◌∷◌, ◌++◌, Option, Some, None, length, slice_set}
use Rattle.std.specs.List.{slice_get}
use Rattle.xcp_slave.specs.Outcomes.{Answer}
use Rattle.xcp_slave.specs.declared.Request.TheVariants as requests
use Rattle.xcp_trace.specs.declared.Entry.{Entry}
use Rattle.xcp_locked.specs.declared.receipt.Receipt.{Receipt}
use Rattle.xcp_locked.specs.declared.errors.LockedError.{LockedError}
use Rattle.xcp_locked.specs.declared.tasks.TaskError.{TaskError}
use Rattle.xcp_locked.specs.Caller.{CallerValue, accepting}
use Rattle.xcp_locked.specs.Journal.{entry}
use Rattle.xcp_locked.specs.Receipts.{receipt}
use Rattle.std.specs.Option.{option_or}
use Rattle.xcp_locked.specs.Tasks.{refused_with}

-- The last Hangup, by the first caller: it was accepted as the journal's last call, or it was refused and is the fault where
-- there was none before.
pub record HungUp (before after : Option TaskError) (old new : List CallerValue) (chapter : ℕ) (journal : List Entry) : Type 0 where
  pub caller : CallerValue
  pub first : slice_get old 0 ≡ Some caller
  pub outcome :
      ((earlier : List Entry) × (answer : Answer) × (journal ≡ earlier ++ entry caller.number requests.Hangup answer ∷ []) × (new ≡ slice_set old 0 (accepting caller (receipt chapter (length earlier) requests.Hangup answer))) × (after ≡ before))
      ⊎ ((e : LockedError) × (new ≡ old) × (after ≡ option_or before (Some (refused_with e))))

-- The journal's last call is a Hangup of this caller, whose last receipt is of it.
pub record EndsWithHangup (chapter : ℕ) (journal : List Entry) (caller : CallerValue) : Type 0 where
  pub earlier : List Entry
  pub answer : Answer
  pub last : journal ≡ earlier ++ entry caller.number requests.Hangup answer ∷ []
  pub receipts : List Receipt
  pub told : caller.receipts ≡ receipts ++ receipt chapter (length earlier) requests.Hangup answer ∷ []

-- Without a fault the journal ends with a Hangup of the first caller.
abbrev pub EndsSession : Option TaskError → List CallerValue → ℕ → List Entry → Type 0
EndsSession fault callers chapter journal = fault ≡ None → (first : CallerValue) × (slice_get callers 0 ≡ Some first) × EndsWithHangup chapter journal first
