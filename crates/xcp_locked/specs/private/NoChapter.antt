-- A chapter that is none.
use Rattle.std.specs.Prelude.{[]}
use Rattle.xcp_slave.specs.SlaveValue.{SlaveValue, opening}
use Rattle.xcp_locked.specs.LockedSlave.{ChapterValue}
use Rattle.xcp_locked.specs.private.NoLayout.{no_layout}

abbrev pub no_slave : SlaveValue
no_slave = opening no_layout

-- nothing happens in it
abbrev pub empty_chapter : ChapterValue
empty_chapter = record { number = 0; before = 0; base = no_slave; entries = []; last = no_slave }
