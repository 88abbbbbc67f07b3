use Rattle.std.proofs.Common.{◌≡◌, ◌≤◌, ℕ, ◌+◌, ◌-◌, List, ◌++◌, rules, length, take, sym, ap, ◌∙◌, subst, length-take-le}
use Rattle.std.proofs.KnownBytes.{Consumes-trans}
use Rattle.std.proofs.Math.Seq.{take-append-add}
use Rattle.std.proofs.lemmas.List.{take-append-le}
use Rattle.std.specs.Io.KnownBytes.{Consumes}
use borrow.Rule.Slice.PartMut.{post_of, put_mid}
use Rattle.xcp_audit.proofs.head.fill.Goals as goal

-- the front of a buffer whose rest was written
grown : (i k n : ℕ) (buffer written : List ℕ) → i ≤ length buffer → n ≤ length written → take (i + n) (put_mid i k buffer written) ≡ take i buffer ++ take n written
grown i k n buffer written within fits =
    let front = take i buffer in
    let rest = written ++ post_of i k buffer in
    ap (λ m. take (m + n) (front ++ rest)) (sym (length-take-le i buffer within)) ∙ take-append-add front rest n ∙ ap (λ b. front ++ b) (take-append-le n written (post_of i k buffer) fits)

pub loop-count-preserved : goal.loop-count-preserved
loop-count-preserved g c =
    let i = c.loop-count.count in
    let room = 38 - i in
    let within : i ≤ length c.loop-count.bytes = search rules in
    record {
      within = search rules;
      bytes = subst (Consumes _ _) (sym (grown i room c.in-Ok.more c.loop-count.bytes c.read.new.buf within c.in-Ok.ensures.bound.0))
          (Consumes-trans _ _ _ _ _ c.loop-count.invariant.bytes c.in-Ok.ensures.bytes.0);
      failures = search rules;
    }
