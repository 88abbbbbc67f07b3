use Rattle.xcp_memory.specs.PageSwitch.{segment_switched}
use Rattle.xcp_memory.proofs.PageSwitchLemmas.{mapped_more}
use Rattle.xcp_memory.proofs.pages.switching.give_each.Goals as goal

pub loop-segment-preserved : goal.loop-segment-preserved
loop-segment-preserved c =
    mapped_more (segment_switched c.args.mode c.args.page) c.args.segments.now c.loop-segment.segments c.loop-segment.segment-index c.segment-item.result c.give.new.self c.loop-segment-test.true c.loop-segment.invariant c.give.ensures
