-- What an audit says of a file.
use Rattle.std.specs.Prelude.{◌≡◌, ◌≢◌, ◌<◌, ◌≤◌, ◌⊎◌, ℕ, suc, List, [], ◌∷◌, ◌++◌, length, take, Option, Result, Ok, Err}
use mathlib.Core.List.{IsPrefix}
use Rattle.xcp_slave.specs.Run.{Run}
use Rattle.xcp_slave.specs.SlaveValue.{SlaveValue}
use Rattle.xcp_slave.specs.Step.{Answers}
use Rattle.xcp_trace.specs.declared.Entry.{Entry}
use Rattle.xcp_record.specs.declared.fault.AuditFault.{AuditFault}
use Rattle.xcp_record.specs.declared.fault.AuditFault.TheVariants as faults
use Rattle.xcp_record.specs.declared.ending.FileEnding.{FileEnding}
use Rattle.xcp_record.specs.declared.ending.Settled.{Settled}
use Rattle.xcp_record.specs.declared.roster.Roster.{Roster}
use Rattle.xcp_record.specs.FileFormat.{ending_in, head}
use Rattle.xcp_record.specs.JournalFile.{EndsInside, IsFile, IsNoPart, calls_of, exchanges}

-- The bytes are a whole file of this layout without an end mark, with this roster or none, and its n calls are a run of the slave v.
pub record Settles (roster : Option Roster) (layout : List ℕ) (v : SlaveValue) (bytes : List ℕ) (n : ℕ) : Type 0 where
  pub chapters : List (List Entry)
  pub file : IsFile roster layout bytes chapters
  pub last : SlaveValue
  pub run : Run v (exchanges (calls_of chapters)) last
  pub count : length (calls_of chapters) ≡ n

-- The same of a whole file that ends so.
pub record SettlesTo (roster : Option Roster) (layout : List ℕ) (v : SlaveValue) (bytes : List ℕ) (n : ℕ) (ending : FileEnding) : Type 0 where
  pub before : List ℕ
  pub settled : Settles roster layout v before n
  pub whole : bytes ≡ before ++ ending_in before n ending

-- The call of index i is the first that isn't the slave's: those before it are a run, and the slave doesn't answer it so.
pub record Differs (v : SlaveValue) (calls : List Entry) (i : ℕ) : Type 0 where
  pub earlier : List Entry
  pub call : Entry
  pub later : List Entry
  pub joined : calls ≡ earlier ++ call ∷ later
  pub place : length earlier ≡ i
  pub slave : SlaveValue
  pub run : Run v (exchanges earlier) slave
  pub other : (w : SlaveValue) → Answers slave call.exchange.request call.exchange.answer w → ⊥

-- The file was read up to a call that isn't the slave's, and to the end of that call's chapter.
pub record Mismatches (roster : Option Roster) (layout : List ℕ) (v : SlaveValue) (bytes : List ℕ) (i : ℕ) : Type 0 where
  pub chapters : List (List Entry)
  pub file : IsFile roster layout bytes chapters
  pub differs : Differs v (calls_of chapters) i

-- The file is settled up to some rest of what was read.
pub record SettlesUpTo (roster : Option Roster) (layout : List ℕ) (v : SlaveValue) (read : List ℕ) (n : ℕ) (Rest : ℕ → List ℕ → List ℕ → Type 0) : Type 0 where
  pub before : List ℕ
  pub rest : List ℕ
  pub joined : read ≡ before ++ rest
  pub settled : Settles roster layout v before n
  pub why : Rest (length settled.chapters) before rest

-- No head of any layout's file, with a roster or without, stands there: not where the file ends, and else not however it goes on.
abbrev pub IsForeign : Type 0 → List ℕ → Type 0
IsForeign End read = (End ⊎ (38 ≤ length read)) × ((roster : Option Roster) (layout more : List ℕ) → length layout ≡ 32 → (End → more ≡ []) → IsPrefix (head roster layout) (read ++ more) → ⊥)

-- What an audit says of a file with this roster or none, of which it has read these bytes; End says that there are no more.
abbrev pub Audits : Option Roster → List ℕ → SlaveValue → Type 0 → List ℕ → Result Settled AuditFault → Type 0
Audits roster layout v End read (Ok s) = End × SettlesTo roster layout v read s.calls s.ending
Audits roster layout v End read (Err (faults.Mismatch i)) = Mismatches roster layout v read i
Audits roster layout v End read (Err (faults.Cut n)) = End × SettlesUpTo roster layout v read n (λ number before rest. (0 < length rest) × EndsInside rest)
Audits roster layout v End read (Err (faults.Altered n)) = SettlesUpTo roster layout v read n (IsNoPart n)
Audits roster layout v End read (Err (faults.TooLong n)) = SettlesUpTo roster layout v read n (λ number before rest. 4294967296 < number)
Audits roster layout v End read (Err faults.OtherLayout) = (other : List ℕ) × (length other ≡ 32) × (other ≢ layout) × (read ≡ head roster other)
Audits roster layout v End read (Err faults.Foreign) = IsForeign End read
Audits roster layout v End read (Err e) = Unit {0}

-- These are the calls of a whole file of this layout without an end mark, with this roster or none.
pub record HasCalls (roster : Option Roster) (layout bytes : List ℕ) (calls : List Entry) : Type 0 where
  pub chapters : List (List Entry)
  pub file : IsFile roster layout bytes chapters
  pub all : calls ≡ calls_of chapters

-- The same of a whole file of n calls that ends so.
pub record HasCallsTo (roster : Option Roster) (layout bytes : List ℕ) (n : ℕ) (ending : FileEnding) (calls : List Entry) : Type 0 where
  pub before : List ℕ
  pub has : HasCalls roster layout before calls
  pub count : length calls ≡ n
  pub whole : bytes ≡ before ++ ending_in before n ending

-- They are so many, and those of the whole chapters with which what was read begins.
pub record HasCallsUpTo (roster : Option Roster) (layout read : List ℕ) (n : ℕ) (calls : List Entry) : Type 0 where
  pub before : List ℕ
  pub rest : List ℕ
  pub joined : read ≡ before ++ rest
  pub has : HasCalls roster layout before calls
  pub count : length calls ≡ n

-- The calls that a witness of an audit is told, by what it says and has read: those of the file; of a file with a call that differs those
-- up to this one; those before another fault; none where there is no head.
abbrev pub Witnesses : Option Roster → List ℕ → List ℕ → Result Settled AuditFault → List Entry → Type 0
Witnesses roster layout read (Ok s) calls = HasCallsTo roster layout read s.calls s.ending calls
Witnesses roster layout read (Err (faults.Mismatch i)) calls = (all : List Entry) × HasCalls roster layout read all × (calls ≡ take (suc i) all)
Witnesses roster layout read (Err (faults.Cut n)) calls = HasCallsUpTo roster layout read n calls
Witnesses roster layout read (Err (faults.Altered n)) calls = HasCallsUpTo roster layout read n calls
Witnesses roster layout read (Err (faults.TooLong n)) calls = HasCallsUpTo roster layout read n calls
Witnesses roster layout read (Err faults.OtherLayout) calls = calls ≡ []
Witnesses roster layout read (Err faults.Foreign) calls = calls ≡ []
Witnesses roster layout read (Err e) calls = (calls ≡ []) ⊎ ((n : ℕ) × HasCallsUpTo roster layout read n calls)

-- It says that so many calls are settled, and how the file ends, unless a read failed or no memory was left.
abbrev pub SaysSettled : ℕ → FileEnding → Result Settled AuditFault → Type 0
SaysSettled n ending (Ok s) = (s.calls ≡ n) × (s.ending ≡ ending)
SaysSettled n ending (Err faults.Read) = Unit {0}
SaysSettled n ending (Err faults.Memory) = Unit {0}
SaysSettled n ending (Err e) = ⊥

-- A run of the slave stands in a file of this layout, with this roster or none, that ends so, which has no more chapters than a journal can have.
pub record HoldsRun (roster : Option Roster) (layout : List ℕ) (v : SlaveValue) (bytes : List ℕ) (n : ℕ) (ending : FileEnding) : Type 0 where
  pub holds : SettlesTo roster layout v bytes n ending
  pub few : length holds.settled.chapters ≤ 4294967296
