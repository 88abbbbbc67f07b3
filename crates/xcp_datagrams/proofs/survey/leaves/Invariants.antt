use Rattle.std.proofs.Common.{◌≡◌, ◌≤◌, ◌-◌, drop, length, false}
use Rattle.xcp_framing.specs.Frames.{frames}
use Rattle.xcp_datagrams.specs.Datagrams.{leaves_from}
use Rattle.xcp_datagrams.proofs.survey.leaves.Given as goal

abbrev pub invariant-loop-size : goal.invariant-loop-size
invariant-loop-size l = record {
  within : l.at ≤ length l.bytes;
  so_far : leaves_from false (frames l.max_cto l.bytes) ≡ leaves_from l.gone (frames l.max_cto (drop l.at l.bytes));
}

abbrev pub decreases-loop-size : goal.decreases-loop-size
decreases-loop-size l = length l.bytes - l.at
