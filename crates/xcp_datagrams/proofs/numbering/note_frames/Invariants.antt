use Rattle.std.proofs.Common.{◌≤◌, ◌-◌, length}
use Rattle.xcp_datagrams.proofs.NumberLemmas.{HeardSoFar}
use Rattle.xcp_datagrams.proofs.numbering.note_frames.Given as goal

abbrev pub invariant-loop-size : goal.invariant-loop-size
invariant-loop-size l = record {
  within : l.at ≤ length l.bytes;
  heard : HeardSoFar l.max_cto l.bytes l.at l.fn.numbering l.numbering;
}

abbrev pub decreases-loop-size : goal.decreases-loop-size
decreases-loop-size l = length l.bytes - l.at
