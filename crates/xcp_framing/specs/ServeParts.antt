-- The parts of a call of `serve`, and the faults that end a call by the way.
use Rattle.std.specs.Prelude.{⊤}
use Rattle.xcp_framing.specs.declared.serving.ServeError.{ServeError}
use Rattle.xcp_framing.specs.declared.serving.ServeError.TheVariants as errors

-- a write, the station or want of memory for packets ended the call
abbrev pub IsInterruption : ServeError → Type 0
IsInterruption errors.Write = ⊤
IsInterruption errors.Memory = ⊤
IsInterruption errors.JournalFull = ⊤
IsInterruption errors.NoRoom = ⊤
IsInterruption _ = ⊥
