use Rattle.std.proofs.Common.{◌≡◌, ◌+◌, ◌<◌, ◌≤◌, ◌++◌, ◌∷◌, [], ℕ, List, length, take, get_or, ap, sym, ◌∙◌, arith}
use Rattle.std.proofs.lemmas.List.{get_or-map, length-map, take_all, take_more}
use Rattle.xcp_memory.specs.Layout.{SegmentValue}
use Rattle.xcp_memory.specs.Pages.{no_segment}
use Rattle.xcp_flash.specs.References.{laid_out}
use Rattle.xcp_flash.proofs.LayoutLemmas.{laid_out_sized}
use Rattle.xcp_flash.proofs.references.References.of.Goals as goal

pub returns-clause-sized : goal.returns-clause-sized
returns-clause-sized c =
    let l = c.args.layout.now in
    let pages = laid_out l in
    let past : length pages ≤ c.loop-segment.segment = omega (arith, length-map l.segments (λ (s : SegmentValue). s.bytes)) in
    laid_out_sized c.loop-segment.pages.items l (c.loop-segment.invariant ∙ take_all c.loop-segment.segment pages past)

pub loop-segment-preserved : goal.loop-segment-preserved
loop-segment-preserved c =
    let l = c.args.layout.now in
    let i = c.loop-segment.segment in
    let there : i < length l.segments = omega (arith, c.loop-segment-test.true, c.segment_count-segment-end.ensures.value) in
    let below : i < length (laid_out l) = omega (arith, there, length-map l.segments (λ (s : SegmentValue). s.bytes)) in
    let page : c.in_ok-new.field-0 ≡ get_or (laid_out l) i [] = c.in_ok-new.ensures ∙ c.segment_bytes.ensures.value ∙ sym (get_or-map (λ (s : SegmentValue). s.bytes) l.segments i no_segment [] there) in
    c.in_ok-push.ensures.items
    ∙ ap (λ (pages : List (List ℕ)). pages ++ c.in_ok-new.field-0 ∷ []) c.loop-segment.invariant
    ∙ ap (λ (bytes : List ℕ). take i (laid_out l) ++ bytes ∷ []) page
    ∙ sym (take_more (laid_out l) i [] below)
