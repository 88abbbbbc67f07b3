use Rattle.std.proofs.Common.{inl, ◌≤◌, ◌++◌, ℕ, List, [], arith, length, take, drop, ap, ◌∙◌, subst, length-drop, length-take-le}
use Rattle.std.specs.Prelude.{Option}
use Rattle.std.specs.Io.KnownBytes.{Consumes, IsAtEnd}
use Rattle.std.proofs.KnownBytes.{Consumes-trans}
use Rattle.std.proofs.lemmas.List.{take_all}
use Rattle.xcp_record.specs.FileFormat.{head}
use Rattle.xcp_record.proofs.AuditLemmas.{roster_fault}
use Rattle.xcp_record.proofs.HeadLemmas.{short_head}
use Rattle.xcp_record.proofs.auditing.read_head.Goals as goal

-- a buffer that is full was read whole
full : (old new : Option (List ℕ)) (buffer : List ℕ) (n : ℕ) → length buffer ≤ n → Consumes old new (take n buffer) → Consumes old new buffer
full old new buffer n fits h = subst (Consumes old new) (take_all n buffer fits) h

pub returns-then-got-lt-HEAD_BYTES-clause-reads : goal.returns-then-got-lt-HEAD_BYTES-clause-reads
returns-then-got-lt-HEAD_BYTES-clause-reads g c = λ held.
    let bytes = c.fill.new.buffer in
    let less = c.if-got-lt-HEAD_BYTES.true in
    let size = c.in-Ok.ensures.size in
    let short = length-take-le c.in-Ok.got bytes (omega (arith, less, size)) in
    let end = c.in-Ok.ensures.ended less in (
      take c.in-Ok.got bytes,
      c.in-Ok.ensures.bytes,
      (inl end, λ roster layout more is none front. short_head (take c.in-Ok.got bytes) more roster layout (omega (arith, short, less)) is (none end) front),
    )

pub returns-in-Err-clause-reads : goal.returns-in-Err-clause-reads
returns-in-Err-clause-reads g c = λ held.
    let bytes = c.fill.new.buffer in
    let more = c.if-got-lt-HEAD_BYTES.false in
    let size = c.in-Ok.ensures.size in
    let said = c.in-Err.ensures.reads bytes (c.update.ensures [] held) in (
      bytes ++ said.0,
      Consumes-trans _ _ _ _ _ (full _ _ bytes c.in-Ok.got (omega (arith, size, more)) c.in-Ok.ensures.bytes) said.1,
      roster_fault c.args.layout.now bytes (IsAtEnd (g.R.Read.remaining c.read_roster.new.reader.inner)) said.0 c.read_roster.new.hasher c.in-Err.fault said.2,
    )

pub returns-then-not-names-clause-reads : goal.returns-then-not-names-clause-reads
returns-then-not-names-clause-reads g c = λ held.
    let bytes = c.fill.new.buffer in
    let more = c.if-got-lt-HEAD_BYTES.false in
    let size = c.in-Ok.ensures.size in
    let said = c.in-Ok-read_roster.ensures.reads bytes (c.update.ensures [] held) in (
      bytes ++ said.0,
      Consumes-trans _ _ _ _ _ (full _ _ bytes c.in-Ok.got (omega (arith, size, more)) c.in-Ok.ensures.bytes) said.1,
      (c.in-Ok-read_roster.roster, drop 6 bytes, (let n = length-drop 6 bytes in omega (arith, n, size)), c.if-not-names.ensures {u = tt}, said.2),
    )

pub returns-clause-reads : goal.returns-clause-reads
returns-clause-reads g c = λ held.
    let bytes = c.fill.new.buffer in
    let more = c.if-got-lt-HEAD_BYTES.false in
    let size = c.in-Ok.ensures.size in
    let said = c.in-Ok-read_roster.ensures.reads bytes (c.update.ensures [] held) in (
      bytes ++ said.0,
      Consumes-trans _ _ _ _ _ (full _ _ bytes c.in-Ok.got (omega (arith, size, more)) c.in-Ok.ensures.bytes) said.1,
      (said.2 ∙ ap (head c.in-Ok-read_roster.roster) (c.if-not-names.ensures {u = tt}), said.3),
    )
