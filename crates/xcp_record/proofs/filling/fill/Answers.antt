use Rattle.std.proofs.Common.{◌≡◌, ◌≤◌, ℕ, ◌+◌, ◌-◌, List, ◌++◌, rules, length, take, sym, ap, ◌∙◌, subst, length-take-le}
use Rattle.std.proofs.KnownBytes.{Consumes-trans}
use Rattle.std.proofs.Math.Seq.{take-append-add}
use Rattle.std.proofs.lemmas.List.{take-append-le}
use Rattle.std.specs.Io.KnownBytes.{Consumes}
use borrow.Rule.Slice.PartMut.{post_of, put_mid}
use Rattle.xcp_record.proofs.filling.fill.Goals as goal

-- the front of a buffer whose rest was written
grown : (i k n : ℕ) (buffer written : List ℕ) → i ≤ length buffer → n ≤ length written → take (i + n) (put_mid i k buffer written) ≡ take i buffer ++ take n written
grown i k n buffer written within fits =
    let front = take i buffer in
    let rest = written ++ post_of i k buffer in
    ap (λ m. take (m + n) (front ++ rest)) (sym (length-take-le i buffer within)) ∙ take-append-add front rest n ∙ ap (λ b. front ++ b) (take-append-le n written (post_of i k buffer) fits)

pub loop-filled-preserved : goal.loop-filled-preserved
loop-filled-preserved g c =
    let i = c.loop-filled.filled in
    let room = length c.loop-filled.buffer - i in
    record {
      size = search rules;
      within = search rules;
      bytes = subst (Consumes _ _) (sym (grown i room c.in-Ok.count c.loop-filled.buffer c.read.new.buf c.loop-filled.invariant.within c.in-Ok.ensures.bound.0))
          (Consumes-trans _ _ _ _ _ c.loop-filled.invariant.bytes c.in-Ok.ensures.bytes.0);
      failures = search rules;
    }
