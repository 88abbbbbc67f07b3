use Rattle.std.proofs.Common.{ap, ◌∙◌, ◌≡◌, sym, subst, length, List}
use Rattle.std.proofs.lemmas.List.{length-set}
use Rattle.xcp_memory.specs.PageCopy.{copy_refusal, pages_copied}
use Rattle.xcp_memory.specs.Pages.{IsPages, SegmentPages, PagesValue}
use Rattle.xcp_memory.proofs.PageCopyLemmas.{is_pages-copied}
use Rattle.xcp_memory.proofs.PageLemmas.{refilled}
use Rattle.xcp_memory.proofs.pages.Pages.copy_page.Goals as goal

pub invariant_of-self-else-source-target : goal.invariant_of-self-else-source-target
invariant_of-self-else-source-target c =
    let a = c.args in
    let v : PagesValue = record { layout = c.self.inside.layout; segments = c.self.inside.segments.items; signals = c.self.inside.signals.items } in
    let copied : List SegmentPages → List SegmentPages = λ xs. (pages_copied a.source a.source_page a.target a.target_page (record v { segments = xs })).segments in
    let new : c.copy_across.new.segments ≡ copied c.self.inside.segments.items = c.copy_across.ensures ∙ ap copied c.deref_mut.ensures.value in
    let long = ap length new ∙ length-set c.self.inside.segments.items _ _ in
    let whole = refilled c.self.inside.segments.len c.copy_across.new.segments c.self.inside.segments.items c.self.inside.segments.ok.0 long ∙ new in
    subst (λ (xs : List SegmentPages). IsPages (record v { segments = xs })) (sym whole) (is_pages-copied v a.source a.source_page a.target a.target_page c.self.invariant (ap (copy_refusal a.source a.source_page a.target a.target_page) c.self.view_is ∙ c.in_ok-check_copy.ensures))
