use Rattle.std.proofs.Common.{◌≡◌, ◌∷◌, ◌-◌, length, replicate}
use Rattle.pin_core.proofs.pins.buffers.Given as goal

-- the first image, and the buffers of zeros made so far
abbrev pub invariant-loop-made : goal.invariant-loop-made
invariant-loop-made l = l.buffers.items ≡ l.first ∷ replicate (l._made - 1) (replicate (length l.first) 0)
