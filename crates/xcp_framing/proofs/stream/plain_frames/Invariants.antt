use Rattle.std.proofs.Common.{◌≡◌, ◌≤◌, ◌-◌, ◌++◌, length, drop, map}
use Rattle.xcp_framing.specs.Frames.{frames, rest}
use Rattle.xcp_framing.proofs.stream.plain_frames.Given as goal

abbrev pub invariant-loop-length : goal.invariant-loop-length
invariant-loop-length l = record {
  packets : frames l.max_cto l.stream ≡ map (λ p. p.items) l.packets.items ++ frames l.max_cto (drop l.at l.stream);
  behind : rest l.max_cto l.stream ≡ rest l.max_cto (drop l.at l.stream);
  within : l.at ≤ length l.stream;
}

abbrev pub decreases-loop-length : goal.decreases-loop-length
decreases-loop-length l = length l.stream - l.at
