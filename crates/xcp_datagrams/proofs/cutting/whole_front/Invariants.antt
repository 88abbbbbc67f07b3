use Rattle.std.proofs.Common.{◌≡◌, ◌≤◌, ◌-◌, drop, length}
use Rattle.xcp_framing.specs.Frames.{rest}
use Rattle.xcp_datagrams.proofs.cutting.whole_front.Given as goal

abbrev pub invariant-loop-size : goal.invariant-loop-size
invariant-loop-size l = record {
  within : l.at ≤ length l.datagram;
  behind : rest l.max_cto l.datagram ≡ rest l.max_cto (drop l.at l.datagram);
}

abbrev pub decreases-loop-size : goal.decreases-loop-size
decreases-loop-size l = length l.datagram - l.at
