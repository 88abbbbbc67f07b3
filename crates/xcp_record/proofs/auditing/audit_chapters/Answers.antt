use Rattle.std.proofs.Common.{◌++◌, suc, [], map, take, rules, arith, sym, subst}
use Rattle.std.specs.Io.KnownBytes.{Consumes, IsAtEnd}
use Rattle.std.specs.Prelude.{Err, Ok}
use Rattle.xcp_record.specs.private.ReadChapter.{ReadsNextPart}
use Rattle.std.proofs.KnownBytes.{Consumes-trans}
use Rattle.xcp_trace.specs.EntrySpelling.{entry_in}
use Rattle.xcp_record.specs.JournalFile.{calls_of}
use Rattle.xcp_record.specs.Audit.{Audits, Witnesses}
use Rattle.xcp_record.specs.private.Calls.{SpellsCalls}
use Rattle.xcp_record.proofs.AuditLemmas.{begins, ends, ends_mismatch, ends_settled, ends_too_long, no_head_said, stands_more}
use Rattle.xcp_record.proofs.HeardLemmas.{hears_all, hears_before, hears_differing, hears_no_head, hears_too_long}
use Rattle.xcp_record.proofs.auditing.audit_chapters.Goals as goal

pub returns-in-Err-clause-audits : goal.returns-in-Err-clause-audits
returns-in-Err-clause-audits g c =
    let said = c.in-Err.ensures.reads c.new-hasher.ensures in
    let End = IsAtEnd (g.R.Read.remaining c.read_head.new.reader.inner) in
    let of = no_head_said c.args.layout.now c.args.slave.now End said.0 c.read_head.new.hasher c.in-Err.fault said.2 in (
      said.0,
      said.1,
      of.0,
      of.1,
      [],
      g.met.T.Witness.hears_none c.args.witness.now of.0,
      hears_no_head of.0 c.args.layout.now End said.0 c.read_head.new.hasher c.in-Err.fault said.2,
    )

pub loop-number-init : goal.loop-number-init
loop-number-init g c =
    let said = c.in-Ok.ensures.reads c.new-hasher.ensures in
    let r = c.in-Ok.roster in
    record {
      stands = begins r c.args.layout.now c.args.slave.now (Consumes (g.R.Read.remaining c.args.reader.now.inner) (g.R.Read.remaining c.read_head.new.reader.inner)) (λ calls. g.T.Witness.hears c.args.witness.now r calls c.args.witness.now) said.0 c.read_head.new.hasher said.1
          (g.met.T.Witness.hears_none c.args.witness.now r) said.2.0 said.2.1;
      failures = search rules;
    }

pub returns-in-Ok-End-clause-audits : goal.returns-in-Ok-End-clause-audits
returns-in-Ok-End-clause-audits g c =
    let s = c.loop-number.invariant.stands in
    let next = c.in-Ok-End.ensures.reads s.read s.held in
    let end = subst (λ o. ReadsNextPart c.loop-number.number c.loop-number.calls s.read (IsAtEnd (g.R.Read.remaining c.next_part.new.reader.inner)) next.0 c.next_part.new.parts.calls.items c.next_part.new.hasher (Ok o)) c.in-Ok-End.field-0-is next.2 in (
      s.read ++ next.0,
      Consumes-trans _ _ _ _ _ s.was next.1,
      c.in-Ok.roster,
      ends_settled c.in-Ok.roster c.args.layout.now c.args.slave.now _ _ _ (IsAtEnd (g.R.Read.remaining c.next_part.new.reader.inner)) _ _ c.loop-number.calls next.0 c.in-Ok-End.ending s end.0 end.1,
      calls_of s.settled.chapters,
      s.told,
      hears_all c.in-Ok.roster c.args.layout.now c.args.slave.now _ _ _ _ _ c.loop-number.calls s next.0 c.in-Ok-End.ending end.1,
    )

pub check_calls-requires-clause-calls : goal.check_calls-requires-clause-calls
check_calls-requires-clause-calls g c =
    let s = c.loop-number.invariant.stands in
    let next = c.in-Ok-Chapter.ensures.reads s.read s.held in
    let said = subst (λ o. ReadsNextPart c.loop-number.number c.loop-number.calls s.read (IsAtEnd (g.R.Read.remaining c.next_part.new.reader.inner)) next.0 c.next_part.new.parts.calls.items c.next_part.new.hasher (Ok o)) c.in-Ok-Chapter.field-0-is next.2 in
    let there = said.0 in
    (there.strings, subst (λ b. SpellsCalls b there.strings) (sym c.deref.ensures.value) (record { whole = there.spells; each = there.chapter.each }), there.chapter.few)

pub check_calls-requires-clause-before : goal.check_calls-requires-clause-before
check_calls-requires-clause-before g c =
    let few = c.loop-number.invariant.stands.few in
    let low = c.loop-number-test.true in
    omega (arith, few, low)

pub returns-in-Err-check_calls-clause-audits : goal.returns-in-Err-check_calls-clause-audits
returns-in-Err-check_calls-clause-audits g c =
    let s = c.loop-number.invariant.stands in
    let next = c.in-Ok-Chapter.ensures.reads s.read s.held in
    let said = subst (λ o. ReadsNextPart c.loop-number.number c.loop-number.calls s.read (IsAtEnd (g.R.Read.remaining c.next_part.new.reader.inner)) next.0 c.next_part.new.parts.calls.items c.next_part.new.hasher (Ok o)) c.in-Ok-Chapter.field-0-is next.2 in
    let there = said.0 in
    let spells = subst (λ b. SpellsCalls b there.strings) (sym c.deref.ensures.value) (record { whole = there.spells; each = there.chapter.each }) in
    let differs = c.in-Err-check_calls.ensures.err there.strings spells in
    let told = c.in-Err-check_calls.ensures.told_some there.strings spells in (
      s.read ++ next.0,
      Consumes-trans _ _ _ _ _ s.was next.1,
      c.in-Ok.roster,
      ends_mismatch c.in-Ok.roster c.args.layout.now c.args.slave.now _ _ _ (IsAtEnd (g.R.Read.remaining c.next_part.new.reader.inner)) _ _ c.loop-number.calls c.in-Ok-Chapter.count differs.0 c.in-Err-check_calls.place next.0 c.next_part.new.parts.calls.items s there differs.2 differs.1,
      calls_of s.settled.chapters ++ take (suc told.0) (map entry_in there.strings),
      g.met.T.Witness.hears_more _ _ _ _ _ _ s.told told.2,
      hears_differing c.in-Ok.roster c.args.layout.now c.args.slave.now _ _ _ _ _ c.loop-number.calls s next.0 c.next_part.new.parts.calls.items c.in-Ok-Chapter.count told.0 c.in-Err-check_calls.place there told.1,
    )

pub overflow_add-calls : goal.overflow_add-calls
overflow_add-calls g c =
    let s = c.loop-number.invariant.stands in
    let next = c.in-Ok-Chapter.ensures.reads s.read s.held in
    let said = subst (λ o. ReadsNextPart c.loop-number.number c.loop-number.calls s.read (IsAtEnd (g.R.Read.remaining c.next_part.new.reader.inner)) next.0 c.next_part.new.parts.calls.items c.next_part.new.hasher (Ok o)) c.in-Ok-Chapter.field-0-is next.2 in
    let few = s.few in
    let more = said.0.chapter.few in
    let size = said.0.size in
    let low = c.loop-number-test.true in
    search (rules, arith, few, more, size, low)

pub loop-number-preserved : goal.loop-number-preserved
loop-number-preserved g c =
    let s = c.loop-number.invariant.stands in
    let next = c.in-Ok-Chapter.ensures.reads s.read s.held in
    let said = subst (λ o. ReadsNextPart c.loop-number.number c.loop-number.calls s.read (IsAtEnd (g.R.Read.remaining c.next_part.new.reader.inner)) next.0 c.next_part.new.parts.calls.items c.next_part.new.hasher (Ok o)) c.in-Ok-Chapter.field-0-is next.2 in
    let there = said.0 in
    let spells = subst (λ b. SpellsCalls b there.strings) (sym c.deref.ensures.value) (record { whole = there.spells; each = there.chapter.each }) in
    record {
      stands = stands_more c.in-Ok.roster c.args.layout.now c.args.slave.now c.check_calls.new.slave c.loop-number.slave _ (Consumes (g.R.Read.remaining c.args.reader.now.inner) (g.R.Read.remaining c.next_part.new.reader.inner)) _
          (λ calls. g.T.Witness.hears c.args.witness.now c.in-Ok.roster calls c.check_calls.new.witness) _ c.next_part.new.hasher c.loop-number.number c.loop-number.calls c.in-Ok-Chapter.count next.0 c.next_part.new.parts.calls.items s there (Consumes-trans _ _ _ _ _ s.was next.1)
          (g.met.T.Witness.hears_more _ _ _ _ _ _ s.told ((c.in_default.ensures {u = tt}).told there.strings spells)) said.1 ((c.in_default.ensures {u = tt}).ok there.strings spells);
      failures = search rules;
    }

pub returns-in-Err-next_part-clause-audits : goal.returns-in-Err-next_part-clause-audits
returns-in-Err-next_part-clause-audits g c =
    let s = c.loop-number.invariant.stands in
    let next = c.in-Err-next_part.ensures.reads s.read s.held in (
      s.read ++ next.0,
      Consumes-trans _ _ _ _ _ s.was next.1,
      c.in-Ok.roster,
      subst (λ e. Audits c.in-Ok.roster c.args.layout.now c.args.slave.now (IsAtEnd (g.R.Read.remaining c.next_part.new.reader.inner)) (s.read ++ next.0) (Err e)) (sym c.fault_after.ensures)
          (ends c.in-Ok.roster c.args.layout.now c.args.slave.now _ _ _ (IsAtEnd (g.R.Read.remaining c.next_part.new.reader.inner)) _ c.next_part.new.hasher c.loop-number.number c.loop-number.calls next.0 c.next_part.new.parts.calls.items c.in-Err-next_part.fault s next.2),
      calls_of s.settled.chapters,
      s.told,
      subst (λ e. Witnesses c.in-Ok.roster c.args.layout.now (s.read ++ next.0) (Err e) (calls_of s.settled.chapters)) (sym c.fault_after.ensures)
          (hears_before c.in-Ok.roster c.args.layout.now c.args.slave.now _ _ _ _ _ c.loop-number.calls s next.0 c.in-Err-next_part.fault),
    )

pub returns-clause-audits : goal.returns-clause-audits
returns-clause-audits g c =
    let s = c.loop-number.invariant.stands in
    let many = c.loop-number-test.false in (
      s.read,
      s.was,
      c.in-Ok.roster,
      ends_too_long c.in-Ok.roster c.args.layout.now c.args.slave.now _ _ _ (IsAtEnd (g.R.Read.remaining c.loop-number.reader.inner)) _ c.loop-number.number c.loop-number.calls s (omega (arith, many)),
      calls_of s.settled.chapters,
      s.told,
      hears_too_long c.in-Ok.roster c.args.layout.now c.args.slave.now _ _ _ _ c.loop-number.number c.loop-number.calls s,
    )
