use Rattle.std.proofs.Common.{◌≡◌, ◌+◌, ◌∙◌, ap, sym, arith, length, subst, refl}
use Rattle.std.proofs.lemmas.List.{get_or_default}
use Rattle.xcp_locked.specs.private.NoChapter.{empty_chapter}
use Rattle.xcp_locked.proofs.JoiningLemmas.{AreFirst, first_more, end_before, end_is, gap_here, gap_open}
use Rattle.xcp_locked.proofs.joining.check_joined.Goals as goal
use Rattle.xcp_locked.proofs.joining.check_joined.Goals.{then-number-k-via-then-number-k, then-number-k-via-else-number-k+then-before-calls, then-number-k-via-else-number-k+else-before-calls+then-not-follows, then-chapter-last-via-then-chapter-last, then-chapter-last-via-else-chapter-last+then-before-calls-2, then-chapter-last-via-else-chapter-last+else-before-calls-2+then-not-follows-2}

pub loop-k-preserved : goal.loop-k-preserved
loop-k-preserved g c =
    let chapter = c.index-chapters-k.result in
    let k = c.loop-k.k in
    let cs = c.args.chapters.now in
    let low = c.loop-k-test.true in
    let sum : chapter.before + length chapter.entries ≡ c.before-in-loop-k.result + c.len.result = (λ i. sym c.before-in-loop-k.ensures i + sym c.len.ensures i) in
    subst (λ n. AreFirst g.N.Name.layout cs (k + 1) n) sum
    (first_more g.N.Name.layout cs k c.loop-k.calls chapter c.loop-k.invariant low (c.index-chapters-k.is ∙ get_or_default cs k chapter empty_chapter low) (sym c.number.ensures ∙ c.if-number-k.false) (sym c.before-else-number-k.ensures ∙ c.if-before-calls.false) (λ more. sym c.base.ensures ∙ (c.if-not-follows.ensures {u = tt}).yes refl more) c.known.ensures.run c.known.ensures.reached)

pub returns-then-number-k-clause-gap : goal.returns-then-number-k-clause-gap
returns-then-number-k-clause-gap g c =
    let chapter = c.index-chapters-k.result in
    let k = c.loop-k.k in
    let cs = c.args.chapters.now in
    let locked = c.args.locked.now in
    let layout = g.N.Name.layout in
    gap_here layout cs k c.loop-k.calls locked.chapter locked.before locked.base chapter c.loop-k.invariant c.loop-k-test.true c.index-chapters-k.is
    (elim c.then-number-k.branch [
      | then-number-k-via-then-number-k w ↦ λ f. w.if-number-k.true (c.number.ensures ∙ f.0)
      | then-number-k-via-else-number-k+then-before-calls w ↦ λ f. w.if-before-calls.true (w.before-else-number-k.ensures ∙ f.1)
      | then-number-k-via-else-number-k+else-before-calls+then-not-follows w ↦ λ f. (let other = w.follows.ensures.no w.if-not-follows.true in other.1 (w.base.ensures ∙ f.2 ∙ end_is layout cs k other.0))
    ])

pub returns-then-chapter-last-clause-gap : goal.returns-then-chapter-last-clause-gap
returns-then-chapter-last-clause-gap g c =
    let k = c.loop-k.k in
    let cs = c.args.chapters.now in
    let locked = c.args.locked.now in
    let layout = g.N.Name.layout in
    let all : k ≡ length cs = omega (arith, c.loop-k-test.false, c.loop-k.auto.k-end) in
    gap_open layout cs k c.loop-k.calls locked.chapter locked.before locked.base c.loop-k.invariant all
    (elim c.then-chapter-last.branch [
      | then-chapter-last-via-then-chapter-last w ↦ λ f. w.if-chapter-last.true (c.chapter.ensures ∙ f.0 ∙ all)
      | then-chapter-last-via-else-chapter-last+then-before-calls-2 w ↦ λ f. w.if-before-calls-2.true (w.before-else-chapter-last.ensures ∙ f.1)
      | then-chapter-last-via-else-chapter-last+else-before-calls-2+then-not-follows-2 w ↦ λ f. (let other = w.follows-else-before-calls-2.ensures.no w.if-not-follows-2.true in other.1 (w.base-else-before-calls-2.ensures ∙ f.2 ∙ ap (end_before layout cs) all ∙ end_is layout cs (length cs) other.0))
    ])
