use Rattle.std.proofs.Common.{ap, ◌∙◌, ◌≡◌, sym, subst, length, map, List}
use Rattle.std.proofs.lemmas.List.{length-map}
use Rattle.xcp_memory.specs.Freeze.{segment_frozen}
use Rattle.xcp_memory.specs.Pages.{IsPages, SegmentPages, PagesValue}
use Rattle.xcp_memory.specs.ComputedAccess.{write_refusal}
use Rattle.xcp_memory.proofs.FreezeLemmas.{is_pages-frozen, same_writable}
use Rattle.xcp_memory.proofs.PageLemmas.{refilled}
use Rattle.xcp_memory.proofs.pages.Pages.freeze.Goals as goal

pub invariant_of-self : goal.invariant_of-self
invariant_of-self c =
    let v : PagesValue = record { layout = c.self.inside.layout; segments = c.self.inside.segments.items; signals = c.self.inside.signals.items } in
    let new : c.store_each.new.segments ≡ map segment_frozen c.self.inside.segments.items = c.store_each.ensures.stored ∙ ap (map segment_frozen) c.deref_mut.ensures.value in
    let long = ap length new ∙ length-map c.self.inside.segments.items segment_frozen in
    let whole = refilled c.self.inside.segments.len c.store_each.new.segments c.self.inside.segments.items c.self.inside.segments.ok.0 long ∙ new in
    subst (λ (xs : List SegmentPages). IsPages (record v { segments = xs })) (sym whole) (is_pages-frozen v c.self.invariant)

pub returns-clause-writable : goal.returns-clause-writable
returns-clause-writable c =
    let v : PagesValue = record { layout = c.self.inside.layout; segments = c.self.inside.segments.items; signals = c.self.inside.signals.items } in
    let new : c.store_each.new.segments ≡ map segment_frozen c.self.inside.segments.items = c.store_each.ensures.stored ∙ ap (map segment_frozen) c.deref_mut.ensures.value in
    let long = ap length new ∙ length-map c.self.inside.segments.items segment_frozen in
    let whole = refilled c.self.inside.segments.len c.store_each.new.segments c.self.inside.segments.items c.self.inside.segments.ok.0 long ∙ new in
    λ a n. ap (λ (xs : List SegmentPages). write_refusal (record v { segments = xs }) a n) whole ∙ same_writable v a n ∙ ap (λ (p : PagesValue). write_refusal p a n) c.self.view_is
