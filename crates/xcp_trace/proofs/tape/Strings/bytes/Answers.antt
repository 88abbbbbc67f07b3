use Rattle.std.proofs.Common.{ap, sym, ◌∙◌}
use Rattle.xcp_trace.specs.Tape.{spelt}
use Rattle.xcp_trace.proofs.tape.Strings.bytes.Goals as goal

pub returns : goal.returns
returns c = sym c.self.invariant ∙ ap spelt c.self.view_is
