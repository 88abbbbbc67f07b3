use Rattle.std.proofs.Common.{◌≡◌, ◌<◌, ℕ, List, length, get_or, ap, sym, ◌∙◌, arith, rules}
use Rattle.std.proofs.lemmas.List.{get_or-map, length-map}
use Rattle.xcp_memory.specs.Layout.{SegmentValue}
use Rattle.xcp_memory.specs.Pages.{no_segment}
use Rattle.xcp_flash.proofs.FittingLemmas.{all_fit}
use Rattle.xcp_flash.proofs.fitting.fit_each.Goals as goal

pub returns : goal.returns
returns c =
    let pages = c.args.pages.now in
    let l = c.args.layout.now in
    let count : length pages ≡ length l.segments = search rules in
    all_fit pages l count (λ k below. let within : k < c.loop-segment.segment = search rules in c.loop-segment.invariant k within)

pub returns-then-len-segment_size : goal.returns-then-len-segment_size
returns-then-len-segment_size c same =
    let pages = c.args.pages.now in
    let l = c.args.layout.now in
    let i = c.loop-segment.segment in
    let there : i < length l.segments = omega (arith, ap length same, length-map pages (λ (page : List ℕ). length page), length-map l.segments (λ (s : SegmentValue). length s.bytes), c.loop-segment-test.true) in
    c.if-len-segment_size.true (c.len.ensures ∙ ap length c.index-pages-segment.is
    ∙ sym (get_or-map (λ (page : List ℕ). length page) pages i c.index-pages-segment.result 0 c.loop-segment-test.true)
    ∙ ap (λ (sizes : List ℕ). get_or sizes i 0) same
    ∙ get_or-map (λ (s : SegmentValue). length s.bytes) l.segments i no_segment 0 there
    ∙ sym c.segment_size.ensures.value)
