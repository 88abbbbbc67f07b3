use Rattle.std.proofs.Common.{◌≡◌, Bool, ◌∙◌, ap, ap₂}
use Rattle.clap.specs.declared.builder.Arg.{Arg}
use Rattle.clap.specs.Words.{rule_of, with_rule}
use Rattle.xcp_program.specs.CommandLine.{cut_every, idle, numeric_rule, queue}
use Rattle.xcp_program.proofs.server_words.serve_command.Goals as goal

abbrev is_global : Arg → Bool
is_global a = a.global

pub returns-clause-app : goal.returns-clause-app
returns-clause-app c =
    let queue_is : rule_of c.help-queue.result ≡ numeric_rule queue = ap rule_of c.help-queue.ensures ∙ c.numeric.ensures.rule in
    let idle_is : rule_of c.help-idle.result ≡ numeric_rule idle = ap rule_of c.help-idle.ensures ∙ c.numeric-2.ensures.rule in
    let cut_every_is : rule_of c.help-cut_every.result ≡ numeric_rule cut_every = ap rule_of c.help-cut_every.ensures ∙ c.numeric-3.ensures.rule in
    let with_queue = c.in_ok-serve-2.ensures.shape (ap is_global c.help-queue.ensures ∙ c.numeric.ensures.local) ∙ ap₂ with_rule c.in_ok-serve.ensures.app queue_is in
    let with_idle = c.in_ok-serve-3.ensures.shape (ap is_global c.help-idle.ensures ∙ c.numeric-2.ensures.local) ∙ ap₂ with_rule with_queue idle_is in
    let with_cut_every = c.in_ok-serve-4.ensures.shape (ap is_global c.help-cut_every.ensures ∙ c.numeric-3.ensures.local) ∙ ap₂ with_rule with_idle cut_every_is in
    let with_no_stdin = c.in_ok-serve-5.ensures.shape c.flag-no_stdin.ensures.local ∙ ap₂ with_rule with_cut_every c.flag-no_stdin.ensures.rule in
    c.in_ok-arg.ensures.shape c.flag.ensures.local ∙ ap₂ with_rule with_no_stdin c.flag.ensures.rule
