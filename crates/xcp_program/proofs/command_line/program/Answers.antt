use Rattle.std.proofs.Common.{◌∙◌, ap, ap₂, rules}
use Rattle.clap.specs.Words.{App, with_subcommand}
use Rattle.xcp_program.proofs.command_line.program.Goals as goal

pub returns : goal.returns
returns c =
    let third_is = c.in_ok-top-2.ensures.shape (search rules) ∙ ap₂ with_subcommand c.in_ok-top.ensures (ap (λ (a : App). a.top) c.in_ok-describe.ensures.app) in
    c.in_ok-subcommand.ensures.shape (search rules) ∙ ap₂ with_subcommand third_is (ap (λ (a : App). a.top) c.in_ok-audit.ensures.app)
