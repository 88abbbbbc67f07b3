-- What a scribe is given.
use Rattle.std.specs.Prelude.{List, map}
use Rattle.xcp_slave.specs.SlaveValue.{SlaveValue}
use Rattle.xcp_trace.specs.declared.Entry.{Entry}

-- of a chapter: its calls, in order, and the slave with which it ends
pub record Given : Type 0 where
  pub calls : List Entry
  pub last : SlaveValue

-- the calls of all that was given, chapter by chapter
abbrev pub calls_given : List Given → List (List Entry)
calls_given given = map (λ (g : Given). g.calls) given
