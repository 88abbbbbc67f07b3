use Rattle.std.proofs.Common.{◌≡◌, codes, ◌∙◌, ap, ap₂, rules}
use Rattle.clap.specs.Simple.{app_of_fields}
use Rattle.clap.specs.Words.{App, app_of, new_app, with_subcommand}
use Rattle.xcp_program.specs.CommandLine.{with_a_subcommand_wanted, with_a_version}
use Rattle.xcp_program.proofs.command_line.front.Goals as goal

pub returns : goal.returns
returns c =
    let about_is : app_of c.about.result ≡ new_app (codes "xcpd") = ap app_of_fields c.about.ensures ∙ c.new.ensures.app in
    let version_is : app_of c.after_help.result ≡ with_a_version (new_app (codes "xcpd")) =
    ap app_of_fields c.after_help.ensures ∙ ap app_of_fields c.version.ensures ∙ ap with_a_version about_is in
    let top_is : app_of c.subcommand_required-top.result ≡ with_a_subcommand_wanted (with_a_version (new_app (codes "xcpd"))) =
    ap app_of_fields c.subcommand_required-top.ensures ∙ ap with_a_subcommand_wanted version_is in
    let first_is = c.in_ok-top.ensures.shape (search rules) ∙ ap₂ with_subcommand top_is (ap (λ (a : App). a.top) c.in_ok-replay.ensures.app) in
    c.in_ok-subcommand.ensures.shape (search rules) ∙ ap₂ with_subcommand first_is (ap (λ (a : App). a.top) c.in_ok-serve.ensures.app)
