use Rattle.std.proofs.Common.{◌≡◌, ◌<◌, refl, ap, sym, subst, ◌∙◌, length, List, slice_set, slice_index_or as get_or}
use Rattle.std.proofs.lemmas.List.{get_or_default, length-set}
use Rattle.xcp_memory.specs.Layout.{IsLayout, LayoutValue, SegmentValue}
use Rattle.xcp_memory.specs.Pages.{no_segment}
use Rattle.xcp_memory.proofs.PageLemmas.{refilled}
use Rattle.xcp_memory.proofs.ReferenceLemmas.{lawful_with}
use Rattle.xcp_memory.proofs.layout.Layout.set_reference.Goals as goal

pub invariant_of-self : goal.invariant_of-self
invariant_of-self c =
    let i = c.self.inside in
    let k = c.args.segment in
    let bytes = c.args.bytes.now in
    let l : LayoutValue = record { class = i.class; id = i.id.items; max_cto = i.max_cto; max_dto = i.max_dto; checksum = i.checksum; order = i.order; clock = i.clock; segments = i.segments.items; signals_address = i.signals.address; signals_length = i.signals.size; events = i.events.items; extras = i.extras } in
    let there : k < length l.segments = subst (λ (v : LayoutValue). k < length v.segments) (sym c.self.view_is) c.requires.segment in
    let sized : length bytes ≡ length (get_or l.segments k no_segment).bytes = subst (λ (v : LayoutValue). length bytes ≡ length (get_or v.segments k no_segment).bytes) (sym c.self.view_is) c.requires.size in
    let s : SegmentValue = record (get_or l.segments k no_segment) { bytes = bytes } in
    let found : get_or c.deref_mut.result.now k c.index-deref_mut-segment.result ≡ get_or l.segments k no_segment = ap (λ (xs : List SegmentValue). get_or xs k c.index-deref_mut-segment.result) c.deref_mut.ensures.value ∙ get_or_default l.segments k _ _ there in
    let new : c.set_bytes.new.self ≡ s = c.set_bytes.ensures ∙ ap (λ (x : SegmentValue). record x { bytes = bytes }) found in
    let set : slice_set c.deref_mut.result.now k c.set_bytes.new.self ≡ slice_set l.segments k s = ap (λ (xs : List SegmentValue). slice_set xs k c.set_bytes.new.self) c.deref_mut.ensures.value ∙ ap (slice_set l.segments k) new in
    let whole = refilled (length l.segments) (slice_set c.deref_mut.result.now k c.set_bytes.new.self) l.segments refl (ap length set ∙ length-set l.segments k s) ∙ set in
    subst (λ (xs : List SegmentValue). IsLayout (record l { segments = xs })) (sym whole) (lawful_with l k bytes c.self.invariant there sized)
