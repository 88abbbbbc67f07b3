use Rattle.std.proofs.Common.{◌≡◌, ◌<◌, length, ap, ◌∙◌, arith}
use Rattle.std.specs.Prelude.{sum_by}
use Rattle.std.proofs.lemmas.List.{take_all}
use Rattle.std.proofs.lemmas.List.Sums.{sum_by_more}
use Rattle.xcp_memory.specs.Layout.{SegmentValue}
use Rattle.xcp_memory.specs.Pages.{no_segment}
use Rattle.xcp_memory.proofs.EcuImageLemmas.{bytes_room, class_most, some_byte}
use Rattle.xcp_memory.proofs.layout.Layout.bytes_in_all.Goals as goal

pub overflow_add-sum : goal.overflow_add-sum
overflow_add-sum c =
    let below : c.loop-i.i < length c.args.self.now.segments = omega (arith, c.segment_count-i-end.ensures.value, c.loop-i-test.true) in
    omega (arith, bytes_room c.args.self.now c.loop-i.i c.known.ensures below, class_most c.args.self.now.class, c.loop-i.invariant, c.segment_size-sum.ensures.value)

pub loop-i-preserved : goal.loop-i-preserved
loop-i-preserved c =
    let below : c.loop-i.i < length c.args.self.now.segments = omega (arith, c.segment_count-i-end.ensures.value, c.loop-i-test.true) in
    omega (arith, c.loop-i.invariant, c.segment_size-sum.ensures.value, sum_by_more (λ (s : SegmentValue). length s.bytes) c.args.self.now.segments c.loop-i.i no_segment below)

pub returns : goal.returns
returns c =
    let l = c.args.self.now in
    let all : c.loop-i.sum ≡ sum_by (λ s. length s.bytes) l.segments = c.loop-i.invariant ∙ ap (sum_by (λ (s : SegmentValue). length s.bytes)) (take_all c.loop-i.i l.segments (omega (arith, c.segment_count-i-end.ensures.value, c.loop-i-test.false))) in
    record {
      value = all;
      least = omega (arith, all, some_byte l c.known.ensures);
      most = omega (arith, all, c.known.ensures.total);
      bound = omega (arith, all, c.known.ensures.total, class_most l.class);
    }
