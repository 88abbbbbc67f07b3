-- Events that were lost.
use Rattle.std.specs.Prelude.{Bool, true, false}
use Rattle.xcp_slave.specs.Outcomes.{Answer}
use Rattle.xcp_slave.specs.declared.Outcome.TheVariants as answers

-- an event's packets found no room
abbrev pub is_overrun : Answer → Bool
is_overrun answers.Overrun = true
is_overrun _ = false
