use Rattle.std.proofs.Common.{◌≡◌, ◌≤◌, ◌++◌, drop, length, map, sum_by}
use Rattle.xcp_c.specs.PartsInC.{bytes_said, segment_of_struct, segments_in}
use Rattle.xcp_c.proofs.parts.segments_of.Given as goal

-- those so far, and those that the rest has
abbrev pub invariant-loop-segment : goal.invariant-loop-segment
invariant-loop-segment l = record {
  made : map segment_of_struct l.made.items ++ segments_in (drop l.segment-index l.segments) l.rest ≡ segments_in l.segments l.reference;
  room : sum_by bytes_said (drop l.segment-index l.segments) ≤ length l.rest;
}
