use Rattle.std.proofs.Common.{◌≡◌, ◌+◌, ◌≤◌, ◌<◌, ℕ, List, Some, ap, arith, false, inl, inr, length, refl, subst, sym, ◌∙◌}
use Rattle.std.specs.List.{slice_get}
use Rattle.std.proofs.lemmas.Bool.{cases_lt}
use Rattle.std.proofs.lemmas.Option.{slice_get_read}
use Rattle.xcp_locked.specs.Caller.{CallerValue}
use Rattle.xcp_locked.specs.Chapters.{AreAllSettled, AreJoined, IsWhole}
use Rattle.xcp_locked.specs.LockedSlave.{ChapterValue, LockedValue}
use Rattle.xcp_locked.specs.SettledReceipts.{AreSettledFor, FirstUnsettledFor}
use Rattle.xcp_locked.proofs.JoiningLemmas.{whole_run}
use Rattle.xcp_locked.proofs.joining.settle_chapters.Goals as goal

pub returns-in-Ok-clause-whole : goal.returns-in-Ok-clause-whole
returns-in-Ok-clause-whole g c =
    let l = c.gather.new.self in
    let cs = c.args.chapters.now in
    let joined = (c.in_default.ensures {u = tt}).joined in
    let end = c.loop-k-test.false in
    subst (λ (z : LockedValue). IsWhole g.N.Name.layout z cs c.args.callers.now) c.gather.ensures.same
    (subst (λ (z : List CallerValue). IsWhole g.N.Name.layout l cs z) c.gather.ensures.callers (record {
      joined = joined;
      run = whole_run g.N.Name.layout cs l.chapter l.before l.base l.slave l.journal joined c.known.ensures.run;
      settled = λ k chapter low there. c.loop-k.invariant k chapter (omega (arith, low, end)) there;
      last = c.in-Ok.ensures.all;
    }))

-- so far all chapters are settled, and of this one a caller isn't
pub returns-in-Err-settle_one-clause-first : goal.returns-in-Err-settle_one-clause-first
returns-in-Err-settle_one-clause-first g c =
    let cs = c.args.chapters.now in
    let k = c.loop-k.k in
    let x = c.index-chapters-k.result in
    let there : slice_get cs k ≡ Some x = slice_get_read cs (length cs) k x refl c.loop-k-test.true c.index-chapters-k.is in
    let joined = (c.in_default.ensures {u = tt}).joined in (
      subst (λ (z : LockedValue). AreJoined g.N.Name.layout cs z.chapter z.before z.base) c.gather.ensures.same joined,
      inl (
        x,
        there,
        subst (λ (z : List CallerValue). AreAllSettled k cs z) c.gather.ensures.callers c.loop-k.invariant,
        subst (λ (z : List CallerValue). FirstUnsettledFor false x.number x.entries z c.in-Err-settle_one.unsettled) c.gather.ensures.callers (c.in-Err-settle_one.ensures {u = tt}).first,
      ),
    )

-- one more chapter is settled
pub loop-k-preserved : goal.loop-k-preserved
loop-k-preserved g c j chapter below there =
    let cs = c.args.chapters.now in
    let k = c.loop-k.k in
    let x = c.index-chapters-k.result in
    let here : slice_get cs k ≡ Some x = slice_get_read cs (length cs) k x refl c.loop-k-test.true c.index-chapters-k.is in
    elim (cases_lt j k) [
      | inl a ↦ c.loop-k.invariant j chapter a there
      | inr b ↦
          let e : k ≡ j = omega (arith, below, b) in
          let both : Some x ≡ Some chapter = sym here ∙ ap (λ (n : ℕ). slice_get cs n) e ∙ there in
          let same : x ≡ chapter = cc in
          subst (λ (z : ChapterValue). AreSettledFor false z.number z.entries (length c.gather.new.callers) c.gather.new.callers) same (c.in_default-settle_one.ensures {u = tt}).all
    ]
