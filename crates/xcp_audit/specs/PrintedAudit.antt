-- What is printed of an audit, and what is answered.
use Rattle.std.specs.Prelude.{◌≡◌, ◌≢◌, ◌<◌, ℕ, Bool, List, [], ◌++◌, Option, Some, None, Result, Ok, Err, IfSome, if◌then◌else◌, codes, decimal}
use Rattle.std.specs.Io.KnownBytes.{Consumes, IsAtEnd}
use Rattle.xcp_memory.specs.Layout.{LayoutValue}
use Rattle.xcp_slave.specs.SlaveValue.{opening}
use Rattle.xcp_trace.specs.declared.Entry.{Entry}
use Rattle.xcp_record.specs.declared.FileEnding.{FileEnding}
use Rattle.xcp_record.specs.declared.FileEnding.TheVariants as endings
use Rattle.xcp_record.specs.declared.Settled.{Settled}
use Rattle.xcp_record.specs.declared.AuditFault.{AuditFault}
use Rattle.xcp_record.specs.declared.AuditFault.TheVariants as found
use Rattle.xcp_record.specs.declared.Roster.{Roster}
use Rattle.xcp_record.specs.Audit.{Audits, Witnesses, HoldsRun, SaysSettled}
use Rattle.xcp_program.specs.declared.Fault.{Fault}
use Rattle.xcp_program.specs.declared.Fault.TheVariants as faults
use Rattle.xcp_audit.specs.declared.printer.Trouble.{Trouble}
use Rattle.xcp_audit.specs.declared.printer.Trouble.TheVariants as troubles
use Rattle.xcp_audit.specs.CallLine.{lines_of_calls}
use Rattle.xcp_audit.specs.Naming.{IsReadBy, NamesLayout, named_in}
use Rattle.xcp_audit.specs.Printing.{Prints, Stand}

-- that a whole file is settled, and how it ends
abbrev pub settled_in : FileEnding → List ℕ
settled_in endings.Ended = codes "\nsettled\nended\n"
settled_in endings.Open = codes "\nsettled\nopen\n"

-- the lines behind those of the calls, by what the audit says
abbrev pub closing_lines : Result Settled AuditFault → List ℕ
closing_lines (Ok s) = codes "calls " ++ decimal s.calls ++ settled_in s.ending
closing_lines (Err (found.Cut n)) = codes "calls " ++ decimal n ++ codes "\n"
closing_lines (Err (found.Altered n)) = codes "calls " ++ decimal n ++ codes "\n"
closing_lines (Err (found.TooLong n)) = codes "calls " ++ decimal n ++ codes "\n"
closing_lines (Err e) = []

-- what is answered, likewise
abbrev pub verdict_of : Result Settled AuditFault → Result (Unit {0}) Fault
verdict_of (Ok s) = Ok tt
verdict_of (Err found.Read) = Err (faults.Journal 1)
verdict_of (Err found.Memory) = Err faults.Memory
verdict_of (Err (found.Mismatch i)) = Err (faults.MismatchedCall i)
verdict_of (Err (found.Cut n)) = Err (faults.Journal 3)
verdict_of (Err (found.Altered n)) = Err (faults.Journal 4)
verdict_of (Err found.OtherLayout) = Err (faults.Journal 5)
verdict_of (Err found.Foreign) = Err (faults.Journal 6)
verdict_of (Err (found.TooLong n)) = Err (faults.Journal 6)

-- the printer's trouble comes first
abbrev pub answer_after : Option Trouble → Result Settled AuditFault → Result (Unit {0}) Fault
answer_after (Some troubles.Write) said = Err (faults.Stream 2)
answer_after (Some troubles.Memory) said = Err faults.Memory
answer_after None said = verdict_of said

-- Where a journal's reader stands: the bytes that it has left, where they are known, and how many of its reads have failed.
pub record JournalReading : Type 0 where
  pub left : Option (List ℕ)
  pub failures : ℕ

-- a read failed exactly where the audit says so
pub record ReadsTo (old new : JournalReading) (said : Result Settled AuditFault) : Type 0 where
  pub failed : said ≡ Err found.Read → old.failures < new.failures
  pub unfailed : said ≢ Err found.Read → new.failures ≡ old.failures

-- An audit of a file that begins with this head by a new slave of this layout, which the layout file of this text describes. It is by one
-- SHA-256; what it says of another layout it says of neither, and of a run in a file that names either it says that it is settled. What it says
-- is printed, and where lines are wanted the lines of its calls before that, with the names of their callers by the roster of the file, if it
-- has one; then it is answered.
pub record PrintsAudit (config : List ℕ) (layout : LayoutValue) (head : List ℕ) (before after : JournalReading) (lines : Bool) (old new : Stand) (result : Result (Unit {0}) Fault) : Type 0 where
  pub said : Result Settled AuditFault
  pub digest : List ℕ
  pub read_by : IsReadBy config layout (named_in head) digest
  pub read : List ℕ
  pub consumed : Consumes before.left after.left read
  pub roster : Option Roster
  pub audits : Audits roster digest (opening layout) (IsAtEnd after.left) read said
  pub others : IfSome before.left (λ all. said ≡ Err found.OtherLayout → NamesLayout config layout (named_in all) → ⊥)
  pub settles : IfSome before.left (λ all. (d : List ℕ) (r : Option Roster) (n : ℕ) (ending : FileEnding) → NamesLayout config layout d → HoldsRun r d (opening layout) all n ending → SaysSettled n ending said)
  pub reads : ReadsTo before after said
  pub calls : List Entry
  pub hears : Witnesses roster digest read said calls
  pub printed : Prints old new ((if lines then lines_of_calls roster calls else []) ++ closing_lines said)
  pub answered : result ≡ answer_after new.trouble said
