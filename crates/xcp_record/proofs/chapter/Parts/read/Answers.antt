use Rattle.std.proofs.Common.{◌≡◌, ◌≤◌, ◌++◌, ℕ, List, rules, arith, length, take, refl, ◌∙◌, subst}
use Rattle.std.specs.Prelude.{Option}
use Rattle.std.specs.Io.KnownBytes.{Consumes, IsAtEnd}
use Rattle.std.proofs.KnownBytes.{Consumes-trans}
use Rattle.std.proofs.lemmas.List.{take_all}
use Rattle.xcp_record.proofs.AuditLemmas.{parts_lost}
use Rattle.xcp_record.proofs.FormatLemmas.{inside_calls, inside_digest, inside_head, size_is}
use Rattle.xcp_record.proofs.chapter.Parts.read.Goals as goal

-- a buffer that is full was read whole
full : (old new : Option (List ℕ)) (buffer : List ℕ) (n : ℕ) → length buffer ≤ n → Consumes old new (take n buffer) → Consumes old new buffer
full old new buffer n fits h = subst (Consumes old new) (take_all n buffer fits) h

pub returns-then-got-lt-CHAPTER_HEAD_BYTES-clause-read : goal.returns-then-got-lt-CHAPTER_HEAD_BYTES-clause-read
returns-then-got-lt-CHAPTER_HEAD_BYTES-clause-read g c =
    let first = c.fill.new.buffer in
    let is : length first ≡ 16 = search rules in
    let less = c.if-got-lt-CHAPTER_HEAD_BYTES.true in (
      take c.in-Ok.got first,
      c.in-Ok.ensures.bytes,
      (search rules, (inside_head first c.in-Ok.got c.if-got-eq0.false less (omega (arith, is, less))).0, (inside_head first c.in-Ok.got c.if-got-eq0.false less (omega (arith, is, less))).1),
    )

pub returns-then-size-gt-MOST_BYTES-clause-read : goal.returns-then-size-gt-MOST_BYTES-clause-read
returns-then-size-gt-MOST_BYTES-clause-read g c =
    let first = c.fill.new.buffer in
    let is : length first ≡ 16 = search rules in
    let size = size_is first c.from_le_bytes-size.result c.from_le_bytes-size.ensures in
    let more = c.if-got-lt-CHAPTER_HEAD_BYTES.false in
    let large = c.if-size-gt-MOST_BYTES.true in (
      first,
      full _ _ first c.in-Ok.got (omega (arith, is, more)) c.in-Ok.ensures.bytes,
      (is, omega (arith, size, large)),
    )

pub returns-in-Err-clause-read : goal.returns-in-Err-clause-read
returns-in-Err-clause-read g c =
    let first = c.fill.new.buffer in
    let is : length first ≡ 16 = search rules in
    let more = c.if-got-lt-CHAPTER_HEAD_BYTES.false in
    let lost = c.in-Err.ensures.lost in (
      first ++ lost.0,
      Consumes-trans _ _ _ _ _ (full _ _ first c.in-Ok.got (omega (arith, is, more)) c.in-Ok.ensures.bytes) lost.1,
      parts_lost (IsAtEnd (g.R.Read.remaining c.read_calls.new.reader.inner)) first c.read_calls.new.calls.items c.args.self.now.digest (first ++ lost.0) c.in-Err.fault c.in-Err.ensures.refused,
    )

pub returns-then-calls-size-clause-read : goal.returns-then-calls-size-clause-read
returns-then-calls-size-clause-read g c =
    let first = c.fill.new.buffer in
    let calls = c.read_calls.new.calls.items in
    let is : length first ≡ 16 = search rules in
    let size = size_is first c.from_le_bytes-size.result c.from_le_bytes-size.ensures in
    let long = c.in-Ok-read_calls.ensures.size in
    let more = c.if-got-lt-CHAPTER_HEAD_BYTES.false in
    let less = c.if-calls-size.true in
    let inside = inside_calls first calls c.in-Ok-read_calls.calls is (long ∙ size) (omega (arith, less, long)) in (
      first ++ take c.in-Ok-read_calls.calls calls,
      Consumes-trans _ _ _ _ _ (full _ _ first c.in-Ok.got (omega (arith, is, more)) c.in-Ok.ensures.bytes) c.in-Ok-read_calls.ensures.bytes,
      (c.in-Ok-read_calls.ensures.ended less, inside.0, inside.1),
    )

pub returns-in_default-fill-clause-read : goal.returns-in_default-fill-clause-read
returns-in_default-fill-clause-read g c =
    let first = c.fill.new.buffer in
    let calls = c.read_calls.new.calls.items in
    let is : length first ≡ 16 = search rules in
    let long = c.in-Ok-read_calls.ensures.size in
    let more = c.if-got-lt-CHAPTER_HEAD_BYTES.false in
    let most = c.if-calls-size.false in
    let lost = (c.in_default-fill.ensures {u = tt}).lost in (
      (first ++ calls) ++ lost.0,
      Consumes-trans _ _ _ _ _ (Consumes-trans _ _ _ _ _ (full _ _ first c.in-Ok.got (omega (arith, is, more)) c.in-Ok.ensures.bytes)
          (full _ _ calls c.in-Ok-read_calls.calls (omega (arith, long, most)) c.in-Ok-read_calls.ensures.bytes)) lost.1,
      tt,
    )

pub returns-then-last-lt32-clause-read : goal.returns-then-last-lt32-clause-read
returns-then-last-lt32-clause-read g c =
    let first = c.fill.new.buffer in
    let calls = c.read_calls.new.calls.items in
    let digest = c.fill-2.new.buffer in
    let is : length first ≡ 16 = search rules in
    let whole : length digest ≡ 32 = search rules in
    let size = size_is first c.from_le_bytes-size.result c.from_le_bytes-size.ensures in
    let long = c.in-Ok-read_calls.ensures.size in
    let more = c.if-got-lt-CHAPTER_HEAD_BYTES.false in
    let most = c.if-calls-size.false in
    let less = c.if-last-lt32.true in
    let inside = inside_digest first calls digest c.in-Ok-fill.last is (long ∙ size) whole less in (
      (first ++ calls) ++ take c.in-Ok-fill.last digest,
      Consumes-trans _ _ _ _ _ (Consumes-trans _ _ _ _ _ (full _ _ first c.in-Ok.got (omega (arith, is, more)) c.in-Ok.ensures.bytes)
          (full _ _ calls c.in-Ok-read_calls.calls (omega (arith, long, most)) c.in-Ok-read_calls.ensures.bytes)) c.in-Ok-fill.ensures.bytes,
      (search rules, inside.0, inside.1),
    )

pub returns-clause-read : goal.returns-clause-read
returns-clause-read g c =
    let first = c.fill.new.buffer in
    let calls = c.read_calls.new.calls.items in
    let digest = c.fill-2.new.buffer in
    let is : length first ≡ 16 = search rules in
    let whole : length digest ≡ 32 = search rules in
    let size = size_is first c.from_le_bytes-size.result c.from_le_bytes-size.ensures in
    let long = c.in-Ok-read_calls.ensures.size in
    let more = c.if-got-lt-CHAPTER_HEAD_BYTES.false in
    let most = c.if-calls-size.false in
    let last = c.if-last-lt32.false in
    let small = c.if-size-gt-MOST_BYTES.false in (
      (first ++ calls) ++ digest,
      Consumes-trans _ _ _ _ _ (Consumes-trans _ _ _ _ _ (full _ _ first c.in-Ok.got (omega (arith, is, more)) c.in-Ok.ensures.bytes)
          (full _ _ calls c.in-Ok-read_calls.calls (omega (arith, long, most)) c.in-Ok-read_calls.ensures.bytes)) (full _ _ digest c.in-Ok-fill.last (omega (arith, whole, last)) c.in-Ok-fill.ensures.bytes),
      (refl, is, long ∙ size, whole, omega (arith, long, small)),
    )
