use Rattle.std.proofs.Common.{◌++◌, ℕ, List, length, take}
use Rattle.std.specs.Int.{w32, to_le_bytes}
use Rattle.std.specs.List.{flat_map}
use Rattle.sha2.specs.Hashers.{Holds256}
use Rattle.xcp_program.specs.Decided.{segment_decided}
use Rattle.xcp_program.proofs.deciding.give_segments.Given as goal

-- it has been given how many there are, and those so far
abbrev pub invariant-loop-segment : goal.invariant-loop-segment
invariant-loop-segment l = (before : List ℕ) → Holds256 l.fn.hasher before
    → Holds256 l.hasher (before ++ (to_le_bytes w32 (length l.layout.segments) ++ flat_map segment_decided (take l.segment l.layout.segments)))
