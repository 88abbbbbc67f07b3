use Rattle.std.proofs.Common.{◌++◌, ℕ, List, length, take}
use Rattle.std.specs.Int.{w32, to_le_bytes}
use Rattle.std.specs.List.{flat_map}
use Rattle.sha2.specs.Hashers.{Holds256}
use Rattle.xcp_program.specs.Decided.{event_decided}
use Rattle.xcp_program.proofs.deciding.give_events.Given as goal

-- it has been given how many there are, and those so far
abbrev pub invariant-loop-event : goal.invariant-loop-event
invariant-loop-event l = (before : List ℕ) → Holds256 l.fn.hasher before
    → Holds256 l.hasher (before ++ (to_le_bytes w32 (length l.layout.events) ++ flat_map event_decided (take l.event l.layout.events)))
