use Rattle.std.proofs.Common.{◌≡◌, ◌++◌, map, take, drop}
use Rattle.xcp_memory.specs.PageSwitch.{segment_switched}
use Rattle.xcp_memory.proofs.pages.switching.give_each.Given as goal

abbrev pub invariant-loop-segment : goal.invariant-loop-segment
invariant-loop-segment l = l.segments ≡ map (segment_switched l.mode l.page) (take l.segment-index l.fn.segments) ++ drop l.segment-index l.fn.segments
