-- What a line says, where the bytes of its request stand in a slot that was lent.
use Rattle.std.specs.Prelude.{ℕ, Option, Some, None}
use Rattle.arrayvec.specs.ArrayVec.{ArrayVec}
use Rattle.xcp_slave.specs.AskedRequest.{request_asked}
use Rattle.xcp_slave.specs.declared.asked.Asked.{Asked}
use Rattle.xcp_slave.specs.declared.Request.TheVariants as requests
use Rattle.xcp_script.specs.declared.line.Line.{Line}
use Rattle.xcp_script.specs.declared.line.Line.TheVariants as lines
use Rattle.xcp_script.specs.declared.slot.Parsed.{Parsed}
use Rattle.xcp_script.specs.declared.slot.Parsed.TheVariants as parseds

-- what a line says, with the request whose bytes the slot has: those of a command, and of signals that are handed over by themselves, in one place
abbrev pub line_in : Parsed → ArrayVec ℕ → ArrayVec ℕ → Line
line_in parseds.Skip command signals = lines.Skip
line_in parseds.Command command signals = lines.Ask (requests.Command command)
line_in (parseds.Event channel) command signals = lines.Ask (requests.Event channel signals)
line_in parseds.Drain command signals = lines.Ask requests.Drain
line_in parseds.FinishStore command signals = lines.Ask requests.FinishStore
line_in parseds.Hangup command signals = lines.Ask requests.Hangup
line_in (parseds.Time time) command signals = lines.Ask (requests.Time time)
line_in (parseds.Signals place) command signals = lines.Ask (requests.Signals place command)
line_in parseds.Faulty command signals = lines.Faulty

-- what a line says that isn't faulty, with the request that it asks, if any
abbrev pub line_asking : Option Asked → Line
line_asking (Some asked) = lines.Ask (request_asked asked)
line_asking None = lines.Skip
