use Rattle.std.proofs.Common.{◌≡◌, ◌<◌, ◌≤◌, ◌+◌, ◌-◌, ℕ, true, drop, length, length-drop, take, arith}
use Rattle.std.proofs.lemmas.Bool.Decides.{nat_tests}
use Rattle.std.proofs.lemmas.List.{length-take}
use Rattle.xcp_framing.specs.Wire.{IsUnfinished, len_of}
use Rattle.xcp_framing.proofs.WholeFrameLaws.{no_some}
use Rattle.xcp_datagrams.specs.Datagrams.{IsWholeFrames, fits}
use Rattle.xcp_datagrams.proofs.FrontLemmas.{head_step, none_fits, none_left_more, short_front, slice_all, unfinished_front}
use Rattle.xcp_datagrams.proofs.packing.filling.Goals.{in-Some+then-at-size-gt-LONGEST, in_default}
use Rattle.xcp_datagrams.proofs.packing.filling.Goals as goal

pub loop-size-preserved : goal.loop-size-preserved
loop-size-preserved c =
    let s = c.args.frames.now in
    let at = c.loop-size.at in
    let all = slice_all at s in
    let size = rw all at c.in-Some.ensures.size in
    let allowed = rw all at c.in-Some.ensures.allowed in
    let there = rw all at c.in-Some.ensures.whole in
    record {
      within = (head_step 255 at c.in-Some.size s size allowed there).2;
      fits = grind (arith, nat_tests, c.if-at-size-gt-LONGEST.false);
      whole = none_left_more 255 at c.in-Some.size s c.loop-size.invariant.whole size allowed there;
    }

pub returns-else-at-eq0-clause-fills : goal.returns-else-at-eq0-clause-fills
returns-else-at-eq0-clause-fills c =
    let s = c.args.frames.now in
    let at = c.loop-size.at in
    let all = slice_all at s in
    let behind : (k : ℕ) → at < k → k ≤ length s → k ≤ 1472 → IsUnfinished 255 (take (k - at) (drop at s)) =
    elim c.match-head.branch [
      | in-Some+then-at-size-gt-LONGEST w ↦ λ k more within few.
          let size = rw all at w.in-Some.ensures.size in
          let long : 1472 < at + w.in-Some.size = grind (arith, nat_tests, w.if-at-size-gt-LONGEST.true) in
          short_front 255 (k - at) (drop at s) (omega (arith, size, long, more, few))
      | in_default w ↦ λ k more within few.
          let v : IsUnfinished 255 (take (length s - at) (drop at s)) = no_some _ c.head.ensures.none w.in_default.not-Some in
          unfinished_front 255 (k - at) (drop at s) (rw all at v)
    ] in
    let some : 0 < at = grind (arith, nat_tests, c.if-at-eq0.false) in
    let fitting : fits (take at s) ≡ true = grind (arith, nat_tests, some, c.loop-size.invariant.fits, c.loop-size.invariant.within, length-take at s) in
    record {
      within = c.loop-size.invariant.within;
      whole = record { fitting = fitting; none_left = c.loop-size.invariant.whole };
      most = none_fits 255 at s c.loop-size.invariant.whole behind;
    }

pub returns-then-at-eq0-clause-none : goal.returns-then-at-eq0-clause-none
returns-then-at-eq0-clause-none c = λ k within w.
    let s = c.args.frames.now in
    let at = c.loop-size.at in
    let all = slice_all at s in
    let behind : (k : ℕ) → at < k → k ≤ length s → k ≤ 1472 → IsUnfinished 255 (take (k - at) (drop at s)) =
    elim c.match-head.branch [
      | in-Some+then-at-size-gt-LONGEST w ↦ λ k more within few.
          let size = rw all at w.in-Some.ensures.size in
          let long : 1472 < at + w.in-Some.size = grind (arith, nat_tests, w.if-at-size-gt-LONGEST.true) in
          short_front 255 (k - at) (drop at s) (omega (arith, size, long, more, few))
      | in_default w ↦ λ k more within few.
          let v : IsUnfinished 255 (take (length s - at) (drop at s)) = no_some _ c.head.ensures.none w.in_default.not-Some in
          unfinished_front 255 (k - at) (drop at s) (rw all at v)
    ] in
    let some : 1 ≤ length (take k s) = grind (arith, nat_tests, w.fitting) in
    let none : at ≡ 0 = grind (arith, nat_tests, c.if-at-eq0.true) in
    none_fits 255 at s c.loop-size.invariant.whole behind k (omega (arith, some, none, length-take k s)) within w
