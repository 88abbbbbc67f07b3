use Rattle.std.proofs.Common.{◌≡◌, ◌≢◌, ◌∙◌, ap, sym, MatchBool, Bool, true, false}
use Rattle.xcp_memory.specs.Pages.{SegmentPages}
use Rattle.xcp_memory.proofs.PageStoreLemmas.{same_bytes, same_pages}
use Rattle.xcp_memory.proofs.page_set.PageSet.same_pages.Goals as goal

pub returns-then-self-other : goal.returns-then-self-other
returns-then-self-other c = λ e.
    let ours = ap (λ (s : SegmentPages). s.pages) c.self.view_is in
    let theirs = ap (λ (s : SegmentPages). s.pages) c.other.view_is in
    c.if-self-other.true (same_bytes _ _ _ _ _ _ c.self.invariant c.other.invariant (ours ∙ e ∙ sym theirs)).0

pub returns : goal.returns
returns c = by_bytes c.same_bytes.result (rw (c.deref.ensures.value, c.deref-2.ensures.value) at c.same_bytes.ensures)
  where
    by_bytes : (b : Bool) → MatchBool b (c.self.inside.bytes.items ≡ c.other.inside.bytes.items) (c.self.inside.bytes.items ≢ c.other.inside.bytes.items) → MatchBool b (c.args.self.now.pages ≡ c.args.other.now.pages) (c.args.self.now.pages ≢ c.args.other.now.pages)
    by_bytes true h =
        sym (ap (λ (s : SegmentPages). s.pages) c.self.view_is) ∙ same_pages _ _ _ _ _ _ c.self.invariant c.other.invariant c.if-self-other.false h ∙ ap (λ (s : SegmentPages). s.pages) c.other.view_is
    by_bytes false h = λ e.
        h (same_bytes _ _ _ _ _ _ c.self.invariant c.other.invariant (ap (λ (s : SegmentPages). s.pages) c.self.view_is ∙ e ∙ sym (ap (λ (s : SegmentPages). s.pages) c.other.view_is))).1
