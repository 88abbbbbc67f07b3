use Rattle.std.proofs.Common.{◌≡◌, codes, ◌∙◌, ap, ap₂}
use Rattle.clap.specs.Simple.{app_of_fields}
use Rattle.clap.specs.Words.{app_of, new_app, with_rule}
use Rattle.xcp_program.proofs.command_line.replay_command.Goals as goal

pub returns-clause-app : goal.returns-clause-app
returns-clause-app c =
    let new_is : app_of c.after_help-replay.result ≡ new_app (codes "replay") =
    ap app_of_fields c.after_help-replay.ensures ∙ ap app_of_fields c.about.ensures ∙ c.new.ensures.app in
    let with_file = c.in_ok-replay.ensures.shape c.config_option.ensures.local ∙ ap₂ with_rule new_is c.config_option.ensures.rule in
    c.in_ok-arg.ensures.shape c.choice.ensures.local ∙ ap₂ with_rule with_file c.choice.ensures.rule
