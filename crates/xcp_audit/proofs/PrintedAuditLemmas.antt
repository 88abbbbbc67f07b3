-- An audit, and what is printed behind it.
use Rattle.std.proofs.Common.{◌≡◌, ℕ, Bool, List, [], take, if◌then◌else◌, subst}
use Rattle.std.specs.Prelude.{IfSome, Option, Result}
use Rattle.std.specs.Io.KnownBytes.{Consumes, IsAtEnd}
use Rattle.xcp_memory.specs.Layout.{LayoutValue}
use Rattle.xcp_slave.specs.SlaveValue.{SlaveValue, opening}
use Rattle.xcp_trace.specs.declared.Entry.{Entry}
use Rattle.xcp_record.specs.declared.AuditFault.{AuditFault}
use Rattle.xcp_record.specs.declared.FileEnding.{FileEnding}
use Rattle.xcp_record.specs.declared.Settled.{Settled}
use Rattle.xcp_record.specs.declared.Roster.{Roster}
use Rattle.xcp_record.specs.Audit.{Audits, Witnesses, HoldsRun, SaysSettled}
use Rattle.xcp_program.specs.declared.Fault.{Fault}
use Rattle.xcp_audit.specs.CallLine.{lines_of_calls}
use Rattle.xcp_audit.specs.Naming.{IsReadBy, named_in}
use Rattle.xcp_audit.specs.Printing.{Prints, Stand}
use Rattle.xcp_audit.specs.PrintedAudit.{PrintsAudit, JournalReading, ReadsTo, answer_after, closing_lines}
use Rattle.xcp_audit.specs.private.PrintingLaws.{prints_more}
use Rattle.xcp_audit.proofs.NamingLemmas.{others_neither, settles_either}

-- a new slave audits, the lines of its calls, if wanted, and the closing lines are printed, and it is answered: a printed audit
pub prints_audit : (config front digest : List ℕ) (layout : LayoutValue) (slave : SlaveValue) (before after : JournalReading) (lines : Bool) (old mid new : Stand) (said : Result Settled AuditFault) (result : Result (Unit {0}) Fault)
    → IfSome before.left (λ all. front ≡ take 38 all) → IsReadBy config layout (named_in front) digest → slave ≡ opening layout
    → (read : List ℕ) × Consumes before.left after.left read × (roster : Option Roster) × Audits roster digest slave (IsAtEnd after.left) read said × (calls : List Entry) × Prints old mid (if lines then lines_of_calls roster calls else []) × Witnesses roster digest read said calls
    → IfSome before.left (λ all. (r : Option Roster) (n : ℕ) (ending : FileEnding) → HoldsRun r digest slave all n ending → SaysSettled n ending said) → ReadsTo before after said → Prints mid new (closing_lines said) → result ≡ answer_after new.trouble said
    → PrintsAudit config layout front before after lines old new result
prints_audit config front digest layout slave before after lines old mid new said result fronts read_by opened audited settles reads ended answered =
    let audits = subst (λ v. Audits audited.2 digest v (IsAtEnd after.left) audited.0 said) opened audited.3 in
    record {
      said = said;
      digest = digest;
      read_by = read_by;
      read = audited.0;
      consumed = audited.1;
      roster = audited.2;
      audits = audits;
      others = others_neither config layout front digest audited.2 (opening layout) before.left after.left (IsAtEnd after.left) audited.0 said fronts read_by audited.1 audits;
      settles = settles_either config layout front digest (opening layout) before.left said fronts read_by
          (subst (λ v. IfSome before.left (λ all. (r : Option Roster) (n : ℕ) (ending : FileEnding) → HoldsRun r digest v all n ending → SaysSettled n ending said)) opened settles);
      reads = reads;
      calls = audited.4;
      hears = audited.6;
      printed = prints_more old mid new (if lines then lines_of_calls audited.2 audited.4 else []) (closing_lines said) audited.5 ended;
      answered = answered;
    }
