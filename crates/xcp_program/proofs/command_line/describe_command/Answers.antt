use Rattle.std.proofs.Common.{◌≡◌, Bool, codes, ◌∙◌, ap, ap₂}
use Rattle.clap.specs.declared.builder.Arg.{Arg}
use Rattle.clap.specs.Simple.{app_of_fields}
use Rattle.clap.specs.Words.{app_of, new_app, rule_of, with_rule}
use Rattle.xcp_program.specs.CommandLine.{named_port, numeric_rule}
use Rattle.xcp_program.proofs.command_line.describe_command.Goals as goal

abbrev is_global : Arg → Bool
is_global a = a.global

pub returns-clause-app : goal.returns-clause-app
returns-clause-app c =
    let port_is : rule_of c.help-port.result ≡ numeric_rule named_port = ap rule_of c.help-port.ensures ∙ c.numeric.ensures.rule in
    let new_is : app_of c.after_help-describe.result ≡ new_app (codes "describe") =
    ap app_of_fields c.after_help-describe.ensures ∙ ap app_of_fields c.about.ensures ∙ c.new.ensures.app in
    let with_file = c.in_ok-describe.ensures.shape c.config_option.ensures.local ∙ ap₂ with_rule new_is c.config_option.ensures.rule in
    let with_host = c.in_ok-describe-2.ensures.shape c.host_option.ensures.local ∙ ap₂ with_rule with_file c.host_option.ensures.rule in
    let with_port = c.in_ok-describe-3.ensures.shape (ap is_global c.help-port.ensures ∙ c.numeric.ensures.local) ∙ ap₂ with_rule with_host port_is in
    let with_check = c.in_ok-describe-4.ensures.shape c.flag-check.ensures.local ∙ ap₂ with_rule with_port c.flag-check.ensures.rule in
    c.in_ok-arg.ensures.shape c.flag.ensures.local ∙ ap₂ with_rule with_check c.flag.ensures.rule
