-- What is told at the end of a server.
use Rattle.std.specs.Prelude.{◌≡◌, ℕ, ◌+◌, ◌-◌, ◌^◌, min, sum_by, count_by, Bool, List, [], ◌∷◌, ◌++◌, Option, Some, None, Result, Ok, Err, MatchResult, length, map}
use Rattle.std.specs.List.{slice_get}
use Rattle.std.specs.Option.{option_or}
use Rattle.xcp_bank.specs.BankId.{BankId}
use Rattle.xcp_bank.specs.BankEnds.{six_readers}
use Rattle.xcp_memory.specs.Layout.{LayoutValue}
use Rattle.xcp_slave.specs.Run.{Run}
use Rattle.xcp_scribe.specs.Given.{Given}
use Rattle.xcp_slave.specs.SlaveValue.{opening}
use Rattle.xcp_trace.specs.Lost.{is_overrun}
use Rattle.xcp_framing.specs.Serve.{number_of}
use Rattle.xcp_framing.specs.CountedCalls.{Watched}
use Rattle.xcp_framing.specs.declared.serving.ServeError.{ServeError}
use Rattle.xcp_framing.specs.declared.serving.ServeError.TheVariants as errors
use Rattle.xcp_framing.specs.declared.serving.Served.{Served}
use Rattle.xcp_locked.specs.Caller.{CallerValue, callers_of}
use Rattle.xcp_locked.specs.Chapters.{Disagree, IsWhole, entries_of}
use Rattle.xcp_locked.specs.Journal.{exchanges}
use Rattle.xcp_server.specs.LastHangup.{EndsSession}
use Rattle.xcp_locked.specs.LockedSlave.{ChapterValue, IsReached, LockedValue}
use Rattle.xcp_locked.specs.Publications.{image_of}
use Rattle.xcp_server.specs.ServerOutcome.{Closes, CountTheirCommands}
use Rattle.xcp_server.specs.declared.closing.Closing.{Closing}
use Rattle.xcp_locked.specs.declared.joining.Discord.{Discord}
use Rattle.xcp_locked.specs.declared.receipt.Receipt.{Receipt}
use Rattle.xcp_locked.specs.declared.joining.Discord.TheVariants as discords
use Rattle.xcp_locked.specs.declared.tasks.TaskError.{TaskError}
use Rattle.xcp_locked.specs.declared.tasks.TaskError.TheVariants as tasks
use Rattle.xcp_program.specs.declared.fault.Fault.{Fault}
use Rattle.xcp_program.specs.declared.fault.Fault.TheVariants.{Memory, Mismatch, MismatchedChapter, Stream}
use Rattle.xcp_server.specs.declared.report.Ending.{Ending}
use Rattle.xcp_server.specs.declared.report.Report.{Report}

-- how many of these calls, and of a caller's, were such events
abbrev pub lost_receipts : List Receipt → ℕ
lost_receipts receipts = count_by (λ (r : Receipt). is_overrun r.answer) receipts

abbrev pub lost_by : CallerValue → ℕ
lost_by c = lost_receipts c.receipts

-- the fault that is told where a connection ended so
abbrev pub fault_of_outcome : ServeError → Fault
fault_of_outcome errors.Memory = Memory
fault_of_outcome errors.NoRoom = Memory
fault_of_outcome e = Stream (number_of e)

-- the fault of the first faulty connection
abbrev pub fault_of_outcomes : List (Result Served ServeError) → Option Fault
fault_of_outcomes [] = None
fault_of_outcomes (Ok _ ∷ outcomes) = fault_of_outcomes outcomes
fault_of_outcomes (Err e ∷ outcomes) = Some (fault_of_outcome e)

-- the fault that is told where this ended the tasks, or the last Hangup; a gate that ends a task is none
abbrev pub fault_of_tasks : Option TaskError → Option Fault
fault_of_tasks None = None
fault_of_tasks (Some tasks.Memory) = Some Memory
fault_of_tasks (Some tasks.JournalFull) = Some (Stream (number_of errors.JournalFull))
fault_of_tasks (Some (tasks.GateSpent _)) = None

-- The fault names what isn't as it must be: the chapter that doesn't follow the one before it, or the caller whose receipts differ, and
-- the first of its receipts of the chapter that does.
abbrev pub Names : List CallerValue → Discord → Fault → Type 0
Names callers (discords.Chapter k) f = f ≡ MismatchedChapter k
Names callers (discords.Receipts k u) f = (c : CallerValue) × (slice_get callers u.caller ≡ Some c) × (f ≡ Mismatch c.number u.at)

-- what is told of a server that left chapters, or callers' receipts, that disagree: the first that do
pub record IsMismatch {N I O : Type 0} (layout : LayoutValue) (c : Closing N I O) (f : Fault) : Type 0 where
  pub discord : Discord
  pub disagree : Disagree layout c.locked c.chapters.items c.callers.items discord
  pub told : Names c.callers.items discord f

-- What is told of a server that left this: all calls, those of the chapters and then those of the open one, are one run of the slave,
-- and all callers are settled for it.
pub record IsReport {N I O : Type 0} (layout : LayoutValue) (c : Closing N I O) (r : Report) : Type 0 where
  pub chapters : r.chapters ≡ length c.chapters.items + 1
  pub calls : r.calls ≡ length (entries_of c.chapters.items ++ c.locked.journal)
  pub lost : r.lost ≡ min (sum_by lost_by c.callers.items) (2 ^ 64 - 1)
  pub whole : IsWhole layout c.locked c.chapters.items c.callers.items
  pub fault : r.fault ≡ option_or (fault_of_outcomes c.outcomes.items) (fault_of_tasks c.fault)

-- what a scribe is given of chapters: the calls of each, and the slave with which it ends
abbrev pub given_in : List ChapterValue → List Given
given_in chapters = map (λ (c : ChapterValue). record { calls = c.entries; last = c.last }) chapters

-- the same of the open chapter, as the slave is
abbrev pub given_open : LockedValue → Given
given_open l = record { calls = l.journal; last = l.slave }

-- A server's work was done on a slave of this layout, by tasks that no gate ended, and this is what it gives back: what is told of
-- the work, the journal of its open chapter, which is a run from where the chapter begins, its connections as the work left them, and the
-- scribe, which was given all chapters, in order, the open one last.
pub record IsServed {I O S : Type 0} (N : Type 0) (remaining : I → Option (List ℕ)) (contents : O → Option (List ℕ)) (wrote : S → List Given → Type 0) (layout : LayoutValue) (turns cycles chapter : ℕ) (each_store : Bool) (tasks callers : ℕ) (bank : BankId) (streams : List (Watched I × Watched O)) (ending : Ending I O S) : Type 0 where
  pub closing : Closing N I O
  pub closes : Closes remaining contents layout ⊥ layout.max_cto turns cycles chapter each_store tasks (callers_of layout callers) (six_readers bank (image_of (opening layout))) streams closing
  pub frames : CountTheirCommands closing.outcomes.items closing.callers.items
  pub hangup : EndsSession closing.fault closing.callers.items closing.locked.chapter closing.locked.journal
  pub run : Run closing.locked.base (exchanges closing.locked.journal) closing.locked.slave
  pub reached : IsReached layout closing.locked.before closing.locked.base
  pub told : MatchResult ending.told (IsReport layout closing) (IsMismatch layout closing)
  pub journal : ending.journal.entries ≡ closing.locked.journal
  pub left : ending.left.items ≡ closing.left.items
  pub written : wrote ending.scribe (given_in closing.chapters.items ++ given_open closing.locked ∷ [])
