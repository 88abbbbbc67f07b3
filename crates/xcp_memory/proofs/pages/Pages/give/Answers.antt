use Rattle.std.proofs.Common.{ap, ◌∙◌, ◌≡◌, sym, subst, length, map, List}
use Rattle.std.proofs.lemmas.List.{length-map}
use Rattle.xcp_memory.specs.Pages.{IsPages, SegmentPages, PagesValue}
use Rattle.xcp_memory.specs.PageSwitch.{segment_switched, switch_refusal, is_of_all}
use Rattle.xcp_memory.proofs.PageLemmas.{refilled}
use Rattle.xcp_memory.proofs.PageSwitchLemmas.{is_pages-switched_all}
use Rattle.xcp_memory.proofs.pages.Pages.give.Goals as goal

pub invariant_of-self : goal.invariant_of-self
invariant_of-self c =
    let v : PagesValue = record { layout = c.self.inside.layout; segments = c.self.inside.segments.items; signals = c.self.inside.signals.items } in
    let f = segment_switched c.args.mode c.args.page in
    let new : c.give_each.new.segments ≡ map f c.self.inside.segments.items = c.give_each.ensures ∙ ap (map f) c.deref_mut.ensures.value in
    let long = ap length new ∙ length-map c.self.inside.segments.items f in
    let whole = refilled c.self.inside.segments.len c.give_each.new.segments c.self.inside.segments.items c.self.inside.segments.ok.0 long ∙ new in
    subst (λ (xs : List SegmentPages). IsPages (record v { segments = xs })) (sym whole) (is_pages-switched_all v c.args.mode c.args.segment c.args.page c.self.invariant (ap (switch_refusal c.args.mode c.args.segment c.args.page) c.self.view_is ∙ c.requires) (ap is_of_all (sym (c.from_bits_retain.ensures tt)) ∙ sym (c.contains.ensures tt) ∙ c.if-contains.true))
