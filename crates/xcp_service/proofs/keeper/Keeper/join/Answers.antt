use Rattle.std.proofs.Common.{◌≡◌, ◌+◌, ◌++◌, ◌∷◌, [], ◌∙◌, ℕ, List, Some, None, length, ap, sym, subst}
use Rattle.std.specs.Arc.{arc_value}
use Rattle.std.specs.Option.{option_map_or}
use Rattle.xcp_slave.specs.SlaveValue.{SlaveValue, opening}
use Rattle.xcp_locked.specs.Chapters.{AreJoined}
use Rattle.xcp_locked.specs.LockedSlave.{ChapterValue}
use Rattle.xcp_service.specs.Keeping.{KeeperValue}
use Rattle.xcp_service.specs.private.Waiting.{AreKept, WaitingValue}
use Rattle.xcp_service.proofs.JoinedMoreLemmas.{count_of, joined_more}
use Rattle.xcp_service.proofs.KeepingLemmas.{kept_chapter}
use Rattle.xcp_service.proofs.LosingLemmas.{lost_more}
use Rattle.xcp_service.proofs.keeper.Keeper.join.Goals as goal

some_is_there : {X : Type 0} (x : X) → Some x ≡ None → ⊥
some_is_there x e = cc

pub invariant_of-self-2 : goal.invariant_of-self-2
invariant_of-self-2 g c =
    let k = c.self.inside in
    let chapter : ChapterValue = c.args.chapter in
    let last : SlaveValue = option_map_or arc_value k.at (opening g.N.Name.layout) in
    let follows = c.if-not-follows.ensures {u = tt} in
    let number : chapter.number ≡ k.number = follows.0 ∙ sym (ap (λ (v : KeeperValue). v.number) c.self.view_is) in
    let before : chapter.before ≡ k.before = follows.1 ∙ sym (ap (λ (v : KeeperValue). v.before) c.self.view_is) in
    let base : chapter.base ≡ last = follows.2 ∙ sym (ap (λ (v : KeeperValue). v.last) c.self.view_is) in
    let joined = joined_more g.N.Name.layout k.chapters.list k.number k.before last chapter c.self.invariant.0 number before base c.known.ensures.run in
    let waiting : WaitingValue = record { chapter = chapter; owed = c.count_calls-owed.result } in
    let kept = kept_chapter k.chapters.list k.sheaves.list k.waiting.items waiting (number ∙ count_of g.N.Name.layout k.chapters.list k.number k.before last c.self.invariant.0) c.count_calls-owed.ensures c.self.invariant.1 in
    let chapters : k.chapters.list ++ chapter ∷ [] ≡ c.push_reserved.new.self.list = sym (c.push_reserved.ensures ∙ ap (λ (l : List ChapterValue). l ++ chapter ∷ []) c.reserve-else-is_err.ensures.list) in
    let items : k.waiting.items ++ waiting ∷ [] ≡ c.push_reserved-2.new.self.items = sym (c.push_reserved-2.ensures.items ∙ ap (λ (l : List WaitingValue). l ++ waiting ∷ []) c.reserve.ensures.items) in (
      subst (λ (cs : List ChapterValue). AreJoined g.N.Name.layout cs (k.number + 1) (k.before + c.len.result) (arc_value c.in-Ok.last)) chapters
          (subst (λ (n : ℕ). AreJoined g.N.Name.layout (k.chapters.list ++ chapter ∷ []) (k.number + 1) (k.before + n) (arc_value c.in-Ok.last)) (sym c.len.ensures)
          (subst (λ (v : SlaveValue). AreJoined g.N.Name.layout (k.chapters.list ++ chapter ∷ []) (k.number + 1) (k.before + length chapter.entries) v) (sym (c.in-Ok.ensures {u = tt})) joined)),
      subst (λ (cs : List ChapterValue). AreKept cs k.sheaves.list c.push_reserved-2.new.self.items) chapters (subst (λ (ws : List WaitingValue). AreKept (k.chapters.list ++ chapter ∷ []) k.sheaves.list ws) items kept),
      λ e. absurd (some_is_there _ e),
      c.saturating_add.ensures ∙ lost_more k.chapters.list chapter k.lost c.count_lost-more.result c.push_reserved.new.self.list c.self.invariant.3 c.count_lost-more.ensures (sym chapters),
    )
