use Rattle.std.proofs.Common.{length, ap, sym, ◌∙◌}
use Rattle.xcp_trace.proofs.TapeLaws.{length-strings_in}
use Rattle.xcp_trace.proofs.tape.Strings.len.Goals as goal

pub returns : goal.returns
returns c = sym (length-strings_in c.self.inside.count c.self.inside.left.now) ∙ ap length c.self.view_is
