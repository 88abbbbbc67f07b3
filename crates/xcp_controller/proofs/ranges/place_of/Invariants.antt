use Rattle.std.proofs.Common.{◌≡◌}
use Rattle.xcp_memory.specs.EcuImage.{image_place}
use Rattle.xcp_controller.proofs.ranges.place_of.Given as goal

-- what stands before the segments that were counted
abbrev pub invariant-loop-before : goal.invariant-loop-before
invariant-loop-before l = l.at ≡ image_place l.layout l.before
