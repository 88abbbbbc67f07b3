use Rattle.std.proofs.Common.{◌++◌, Ok, Err, sym, ap, ◌∙◌, subst, append_assoc}
use Rattle.std.specs.Io.KnownBytes.{IsAtEnd}
use Rattle.std.proofs.KnownBytes.{Consumes-trans}
use Rattle.xcp_record.specs.FileFormat.{size_in}
use Rattle.xcp_record.specs.JournalFile.{IsNoEnd}
use Rattle.xcp_record.specs.private.ReadChapter.{ReadsNextPart, ReadsParts}
use Rattle.xcp_record.proofs.AuditLemmas.{check_fault, check_said, mark_fault, parts_fault}
use Rattle.xcp_record.proofs.MarkLemmas.{mark_size, other_mark_head}
use Rattle.xcp_record.proofs.auditing.next_part.Goals as goal

pub returns-in-Err-clause-reads : goal.returns-in-Err-clause-reads
returns-in-Err-clause-reads g c = λ before held.
    let parts = c.in-Err.ensures.read in
    let now = c.read.new.self in
    (parts.0, parts.1, parts_fault (IsAtEnd (g.R.Read.remaining c.read.new.reader.inner)) now.head now.calls.items now.digest parts.0 now.calls.items before c.args.number c.args.calls c.args.hasher.now c.in-Err.fault parts.2)

pub returns-then-not-there-clause-reads : goal.returns-then-not-there-clause-reads
returns-then-not-there-clause-reads g c = λ before held.
    let parts = c.in-Ok.ensures.read in
    let now = c.read.new.self in
    let none = subst (λ b. ReadsParts (IsAtEnd (g.R.Read.remaining c.read.new.reader.inner)) now.head now.calls.items now.digest parts.0 (Ok b)) c.if-not-there.true parts.2 in
    (parts.0, parts.1, (none.0, none.1))

pub returns-in-Ok-check-clause-reads : goal.returns-in-Ok-check-clause-reads
returns-in-Ok-check-clause-reads g c = λ before held.
    let parts = c.in-Ok.ensures.read in
    let now = c.read.new.self in
    let End = IsAtEnd (g.R.Read.remaining c.read.new.reader.inner) in
    let whole = subst (λ b. ReadsParts End now.head now.calls.items now.digest parts.0 (Ok b)) c.if-not-there.false parts.2 in
    (parts.0, parts.1, check_said End parts.0 _ now.calls.items before c.args.number c.args.calls c.in-Ok-check.count c.check.new.hasher whole.0 (c.in-Ok-check.ensures.checks before held))

pub returns-in-Err-check-clause-reads : goal.returns-in-Err-check-clause-reads
returns-in-Err-check-clause-reads g c = λ before held.
    let parts = c.in-Ok.ensures.read in
    let now = c.read.new.self in
    let End = IsAtEnd (g.R.Read.remaining c.read.new.reader.inner) in
    let whole = subst (λ b. ReadsParts End now.head now.calls.items now.digest parts.0 (Ok b)) c.if-not-there.false parts.2 in
    let unmarked = subst (IsNoEnd c.args.calls before) (sym (append_assoc now.head now.calls.items now.digest))
    (other_mark_head before c.args.calls now.head (now.calls.items ++ now.digest) whole.1 (c.if-begin_a_mark.ensures {u = tt})) in
    (parts.0, parts.1, check_fault End parts.0 _ now.calls.items before c.args.number c.args.calls c.check.new.hasher c.in-Err-check.fault whole.0 unmarked (c.in-Err-check.ensures.checks before held))

pub end_a_file-requires-clause-size : goal.end_a_file-requires-clause-size
end_a_file-requires-clause-size g c =
    let parts = c.in-Ok.ensures.read in
    let now = c.read.new.self in
    let End = IsAtEnd (g.R.Read.remaining c.read.new.reader.inner) in
    let whole = subst (λ b. ReadsParts End now.head now.calls.items now.digest parts.0 (Ok b)) c.if-not-there.false parts.2 in
    whole.2 ∙ ap size_in (c.if-begin_a_mark.ensures {u = tt}) ∙ mark_size

pub returns-in-Ok-end_a_file-clause-reads : goal.returns-in-Ok-end_a_file-clause-reads
returns-in-Ok-end_a_file-clause-reads g c = λ before held.
    let parts = c.in-Ok.ensures.read in
    let now = c.read.new.self in
    let End = IsAtEnd (g.R.Read.remaining c.read.new.reader.inner) in
    let whole = subst (λ b. ReadsParts End now.head now.calls.items now.digest parts.0 (Ok b)) c.if-not-there.false parts.2 in
    let more = c.in-Ok-end_a_file.ensures.reads before held in
    (parts.0 ++ more.0, Consumes-trans _ _ _ _ _ parts.1 more.1, (more.2.0, ap (λ b. b ++ more.0) whole.0 ∙ more.2.1))

pub returns-in-Err-end_a_file-clause-reads : goal.returns-in-Err-end_a_file-clause-reads
returns-in-Err-end_a_file-clause-reads g c = λ before held.
    let parts = c.in-Ok.ensures.read in
    let now = c.read.new.self in
    let End = IsAtEnd (g.R.Read.remaining c.read.new.reader.inner) in
    let whole = subst (λ b. ReadsParts End now.head now.calls.items now.digest parts.0 (Ok b)) c.if-not-there.false parts.2 in
    let more = c.in-Err-end_a_file.ensures.reads before held in
    let last = IsAtEnd (g.R.Read.remaining c.end_a_file.new.reader.inner) in
    let said = mark_fault last now.head (now.calls.items ++ now.digest) (now.head ++ now.calls.items ++ now.digest) more.0 now.calls.items before c.args.number c.args.calls c.end_a_file.new.hasher c.in-Err-end_a_file.fault
    (c.if-begin_a_mark.ensures {u = tt}) (append_assoc now.head now.calls.items now.digest) more.2 in (
      parts.0 ++ more.0,
      Consumes-trans _ _ _ _ _ parts.1 more.1,
      subst (λ b. ReadsNextPart c.args.number c.args.calls before last (b ++ more.0) now.calls.items c.end_a_file.new.hasher (Err c.in-Err-end_a_file.fault)) (sym whole.0) said,
    )
