use Rattle.std.proofs.Common.{◌≡◌, take}
use Rattle.pin_core.specs.StateInvariant.{holders}
use Rattle.pin_core.proofs.pins.idle.is_held.Given as goal

-- no reader so far holds the buffer
abbrev pub invariant-loop-reader : goal.invariant-loop-reader
invariant-loop-reader l = holders l.b (take l.reader-index l.readers) ≡ 0
