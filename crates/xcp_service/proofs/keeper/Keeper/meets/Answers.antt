use Rattle.std.proofs.Common.{◌≡◌, ◌∙◌, length, refl, rules, subst, sym}
use Rattle.xcp_service.specs.Keeping.{AreOnce}
use Rattle.xcp_service.proofs.OnceLemmas.{once_kept}
use Rattle.xcp_service.proofs.RefusalLemmas.{met_means}
use Rattle.xcp_service.proofs.keeper.Keeper.meets.Goals as goal
use Rattle.xcp_service.proofs.keeper.Keeper.meets.Goals.{then-not-is_empty-via-then-not-is_empty, then-not-is_empty-via-else-not-is_empty+then-chapter-self, then-not-is_empty-via-else-not-is_empty+else-chapter-self+then-before-self}

pub returns-in-None-clause-once : goal.returns-in-None-clause-once
returns-in-None-clause-once g c =
    let k = c.self.inside in
    let none : length k.waiting.items ≡ 0 = search rules in
    λ meets. subst AreOnce c.self.view_is (once_kept g.N.Name.layout k.chapters.list k.sheaves.list k.waiting.items k.number k.before _ c.self.invariant.0 c.self.invariant.1 none)

pub returns-in-Some-clause-once : goal.returns-in-Some-clause-once
returns-in-Some-clause-once g c =
    let k = c.self.inside in
    let none : length k.waiting.items ≡ 0 = search rules in
    λ meets. subst AreOnce c.self.view_is (once_kept g.N.Name.layout k.chapters.list k.sheaves.list k.waiting.items k.number k.before _ c.self.invariant.0 c.self.invariant.1 none)

pub returns-then-not-is_empty-clause-unmet : goal.returns-then-not-is_empty-clause-unmet
returns-then-not-is_empty-clause-unmet g c =
    let k = c.self.inside in
    λ isnt met.
    let means = met_means g.N.Name.layout _ _ k.waiting.items c.args.locked.now c.self.view_is refl c.self.invariant.0 met in
    elim c.then-not-is_empty.branch [
      | then-not-is_empty-via-then-not-is_empty w ↦ search (rules, means.0)
      | then-not-is_empty-via-else-not-is_empty+then-chapter-self w ↦ absurd (w.if-chapter-self.true (w.chapter.ensures ∙ sym means.1))
      | then-not-is_empty-via-else-not-is_empty+else-chapter-self+then-before-self w ↦ absurd (w.if-before-self.true (w.before-else-chapter-self.ensures ∙ sym means.2))
    ]

pub returns-in-Some-clause-unmet : goal.returns-in-Some-clause-unmet
returns-in-Some-clause-unmet g c =
    let k = c.self.inside in
    λ isnt met.
    let means = met_means g.N.Name.layout _ _ k.waiting.items c.args.locked.now c.self.view_is refl c.self.invariant.0 met in
    search (rules, isnt, means.3)
