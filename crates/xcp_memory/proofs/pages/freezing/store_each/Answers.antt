use Rattle.std.proofs.Common.{sym, ◌∙◌, ap, arith, set}
use Rattle.std.proofs.lemmas.List.Edits.{map_over_more}
use Rattle.std.proofs.lemmas.List.Sums.{count_by_more_yes, count_by_more_no}
use Rattle.xcp_memory.specs.Freeze.{segment_frozen}
use Rattle.xcp_memory.specs.Pages.{SegmentPages}
use Rattle.xcp_memory.proofs.FreezeLemmas.{next_is_old}
use Rattle.xcp_memory.proofs.pages.freezing.store_each.Goals as goal
use Rattle.xcp_memory.proofs.pages.freezing.store_each.Goals.{then-is_frozen, else-is_frozen}

pub loop-segment-preserved : goal.loop-segment-preserved
loop-segment-preserved c =
    let all = c.args.segments.now in
    let i = c.loop-segment.segment-index in
    let s = c.segment-item.result in
    let old = next_is_old segment_frozen all c.loop-segment.segments i s c.loop-segment-test.true c.loop-segment.invariant.stored in
    let frozen = c.is_frozen.ensures ∙ ap (λ (x : SegmentPages). x.freeze) old in
    record {
      count = elim c.if-is_frozen.branch [
        | then-is_frozen w ↦ omega (arith, w.count-is, c.loop-segment.invariant.count, count_by_more_yes (λ (x : SegmentPages). x.freeze) all i s c.loop-segment-test.true (sym frozen ∙ w.if-is_frozen.true))
        | else-is_frozen w ↦ omega (arith, w.count-is, c.loop-segment.invariant.count, count_by_more_no (λ (x : SegmentPages). x.freeze) all i s c.loop-segment-test.true (sym frozen ∙ w.if-is_frozen.false))
      ];
      stored = ap (set c.loop-segment.segments i) (c.store.ensures ∙ ap segment_frozen (sym c.segment-item.is)) ∙ map_over_more segment_frozen all c.loop-segment.segments i s c.loop-segment-test.true c.loop-segment.invariant.stored c.segment-item.is;
    }
