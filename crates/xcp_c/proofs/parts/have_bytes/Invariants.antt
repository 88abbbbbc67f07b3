use Rattle.std.proofs.Common.{◌≡◌, ◌+◌, drop, sum_by}
use Rattle.xcp_c.specs.PartsInC.{bytes_said}
use Rattle.xcp_c.proofs.parts.have_bytes.Given as goal

-- what is left for the segments behind these is what all lack
abbrev pub invariant-loop-segment : goal.invariant-loop-segment
invariant-loop-segment l = sum_by bytes_said l.segments + l.left ≡ sum_by bytes_said (drop l.segment-index l.segments) + l.bytes
