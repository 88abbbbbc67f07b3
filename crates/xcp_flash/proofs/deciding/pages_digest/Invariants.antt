use Rattle.std.proofs.Common.{take}
use Rattle.std.specs.List.{flat_map}
use Rattle.sha2.specs.Hashers.{Holds256}
use Rattle.xcp_flash.specs.Decided.{segment_decided}
use Rattle.xcp_flash.proofs.deciding.pages_digest.Given as goal

-- it has been given the segments so far
abbrev pub invariant-loop-segment : goal.invariant-loop-segment
invariant-loop-segment l = Holds256 l.hasher (flat_map segment_decided (take l.segment l.layout.segments))
