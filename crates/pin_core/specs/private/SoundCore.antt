-- What the fields of a core keep to.
use Rattle.std.specs.Prelude.{◌≤◌}
use Rattle.pin_core.specs.declared.pins.Core.TheInside.{Inside}
use Rattle.pin_core.specs.State.{width}
use Rattle.pin_core.specs.StateInvariant.{Lawful}
use Rattle.pin_core.specs.CoreFields.{shown}

-- the state is lawful, and the writer has not counted more words than a buffer has
abbrev pub IsSound : Inside → Type 0
IsSound c = (c.writer.written ≤ width (shown c)) × Lawful (width (shown c)) (shown c)
