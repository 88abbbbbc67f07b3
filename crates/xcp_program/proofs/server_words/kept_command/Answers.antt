use Rattle.std.proofs.Common.{◌≡◌, Bool, ◌∙◌, ap, ap₂}
use Rattle.clap.specs.declared.builder.Arg.{Arg}
use Rattle.clap.specs.Words.{rule_of, with_rule}
use Rattle.xcp_program.specs.CommandLine.{numeric_rule, patience, period}
use Rattle.xcp_program.proofs.server_words.kept_command.Goals as goal

abbrev is_global : Arg → Bool
is_global a = a.global

pub returns-clause-app : goal.returns-clause-app
returns-clause-app c =
    let period_is : rule_of c.help-period.result ≡ numeric_rule period = ap rule_of c.help-period.ensures ∙ c.numeric.ensures.rule in
    let patience_is : rule_of c.help-patience.result ≡ numeric_rule patience = ap rule_of c.help-patience.ensures ∙ c.numeric-2.ensures.rule in
    let with_period = c.in_ok-serve-2.ensures.shape (ap is_global c.help-period.ensures ∙ c.numeric.ensures.local) ∙ ap₂ with_rule c.in_ok-serve.ensures.app period_is in
    let with_patience = c.in_ok-serve-3.ensures.shape (ap is_global c.help-patience.ensures ∙ c.numeric-2.ensures.local) ∙ ap₂ with_rule with_period patience_is in
    let with_journal = c.in_ok-serve-4.ensures.shape c.choice-journal.ensures.local ∙ ap₂ with_rule with_patience c.choice-journal.ensures.rule in
    let with_flash = c.in_ok-serve-5.ensures.shape c.choice-flash.ensures.local ∙ ap₂ with_rule with_journal c.choice-flash.ensures.rule in
    c.in_ok-arg.ensures.shape c.flag.ensures.local ∙ ap₂ with_rule with_flash c.flag.ensures.rule
