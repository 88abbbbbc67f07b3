use Rattle.std.proofs.Common.{◌≡◌, ◌≤◌, ◌-◌, [], length, take}
use Rattle.xcp_framing.specs.Frames.{rest}
use Rattle.xcp_datagrams.proofs.packing.filling.Given as goal

abbrev pub invariant-loop-size : goal.invariant-loop-size
invariant-loop-size l = record {
  within : l.at ≤ length l.frames;
  fits : l.at ≤ 1472;
  whole : rest 255 (take l.at l.frames) ≡ [];
}

abbrev pub decreases-loop-size : goal.decreases-loop-size
decreases-loop-size l = length l.frames - l.at
