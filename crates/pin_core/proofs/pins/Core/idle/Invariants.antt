use Rattle.std.proofs.Common.{ℕ, ◌<◌}
use Rattle.pin_core.specs.StateInvariant.{IsIdle}
use Rattle.pin_core.proofs.pins.Core.idle.Given as goal

-- no buffer so far is idle
abbrev pub invariant-loop-b : goal.invariant-loop-b
invariant-loop-b l = (k : ℕ) → k < l.b → ¬ IsIdle l.self k
