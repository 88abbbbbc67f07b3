use Rattle.std.proofs.Common.{◌≡◌, ◌++◌, List, ℕ, length, drop, ap, sym, ◌∙◌, subst, arith, take-append-drop}
use Rattle.sha2.specs.Sha256.{sha256}
use Rattle.xcp_flash.specs.FlashFile.{body_of, head}
use Rattle.xcp_flash.specs.private.Reading.{BeginsWithPages}
use Rattle.xcp_flash.proofs.FileLemmas.{body_front, head_ends, parted}
use Rattle.xcp_flash.proofs.FaultLemmas.{has_room, joined, one_list, pages_begin}
use Rattle.xcp_flash.proofs.restoring.check.Goals as goal

pub returns-then-file-lt-HEAD_BYTES-clause-err : goal.returns-then-file-lt-HEAD_BYTES-clause-err
returns-then-file-lt-HEAD_BYTES-clause-err c =
    let less = c.if-file-lt-HEAD_BYTES.true in (
      c.if-not-has_magic.ensures {u = tt},
      (λ long. absurd (omega (arith, long, less))),
      λ found. let room = has_room _ _ _ c.told-layout_digest found in absurd (omega (arith, room, less)),
    )

pub returns-then-not-names-clause-err : goal.returns-then-not-names-clause-err
returns-then-not-names-clause-err c = (
  c.if-not-has_magic.ensures {u = tt},
  c.if-file-lt-HEAD_BYTES.false,
  λ same. c.if-not-names.ensures {u = tt} (ap (drop 6) (c.split_at.ensures.front ∙ same) ∙ head_ends c.args.layout_digest.now),
)

pub returns-in_default-clause-err : goal.returns-in_default-clause-err
returns-in_default-clause-err c =
    let l = c.args.layout.now in
    let d = c.args.layout_digest.now in
    let file = c.args.file.now in
    let begins = c.if-not-has_magic.ensures {u = tt} in
    let named = parted d file begins (ap (drop 6) (sym c.split_at.ensures.front) ∙ c.if-not-names.ensures {u = tt}) in
    let none = (c.in_default.ensures {u = tt}).none in (
      begins,
      (λ long. named),
      λ found. none found.pages found.digest (subst (λ (b : List ℕ). BeginsWithPages l b found.pages found.digest) (sym c.split_at.ensures.back) (pages_begin l d file c.told-layout_digest found)),
    )

pub returns-then-rest-ne-DIGEST_BYTES-clause-err : goal.returns-then-rest-ne-DIGEST_BYTES-clause-err
returns-then-rest-ne-DIGEST_BYTES-clause-err c =
    let l = c.args.layout.now in
    let d = c.args.layout_digest.now in
    let file = c.args.file.now in
    let begins = c.if-not-has_magic.ensures {u = tt} in
    let named = parted d file begins (ap (drop 6) (sym c.split_at.ensures.front) ∙ c.if-not-names.ensures {u = tt}) in
    let some = (c.in-Some.ensures {u = tt}).some in (
      begins,
      (λ long. named),
      λ found.
          let there = subst (λ (b : List ℕ). BeginsWithPages l b found.pages found.digest) (sym c.split_at.ensures.back) (pages_begin l d file c.told-layout_digest found) in
          let both = one_list l c.split_at.result.1.now some.0 found.pages c.in-Some.rest.now found.digest some.1 there in
          c.if-rest-ne-DIGEST_BYTES.true (ap (λ (b : List ℕ). length b) both.1 ∙ found.size),
    )

pub returns-then-not-same-clause-err : goal.returns-then-not-same-clause-err
returns-then-not-same-clause-err c =
    let l = c.args.layout.now in
    let d = c.args.layout_digest.now in
    let file = c.args.file.now in
    let begins = c.if-not-has_magic.ensures {u = tt} in
    let named = parted d file begins (ap (drop 6) (sym c.split_at.ensures.front) ∙ c.if-not-names.ensures {u = tt}) in
    let some = (c.in-Some.ensures {u = tt}).some in
    let rest = c.in-Some.rest.now in
    let long = c.if-rest-ne-DIGEST_BYTES.false in
    let whole = joined d file c.split_at.result.1.now some.0 rest named c.split_at.ensures.back some.1.whole in
    let body = c.split_at-2.ensures.front ∙ body_front file (body_of d some.0) rest whole long in (
      record { pages = some.0; digest = rest; sized = some.1.sized; size = long; whole = whole },
      λ same. c.if-not-same.ensures {u = tt} (c.digest_of.ensures ∙ ap sha256 body ∙ sym same),
    )

pub returns-clause-ok : goal.returns-clause-ok
returns-clause-ok c =
    let l = c.args.layout.now in
    let d = c.args.layout_digest.now in
    let file = c.args.file.now in
    let begins = c.if-not-has_magic.ensures {u = tt} in
    let named = parted d file begins (ap (drop 6) (sym c.split_at.ensures.front) ∙ c.if-not-names.ensures {u = tt}) in
    let some = (c.in-Some.ensures {u = tt}).some in
    let rest = c.in-Some.rest.now in
    let long = c.if-rest-ne-DIGEST_BYTES.false in
    let whole = joined d file c.split_at.result.1.now some.0 rest named c.split_at.ensures.back some.1.whole in
    let body = c.split_at-2.ensures.front ∙ body_front file (body_of d some.0) rest whole long in
    let sum : rest ≡ sha256 (body_of d some.0) = sym (c.if-not-same.ensures {u = tt}) ∙ c.digest_of.ensures ∙ ap sha256 body in
    record {
      pages = some.0;
      found = subst (λ (b : List ℕ). BeginsWithPages l c.split_at.result.1.now some.0 b) sum some.1;
      whole = sym (take-append-drop 38 file) ∙ ap (λ (b : List ℕ). b ++ drop 38 file) named ∙ ap (λ (b : List ℕ). head d ++ b) (sym c.split_at.ensures.back);
    }
