use Rattle.std.proofs.Common.{◌≡◌, Bool, ◌∙◌, ap, ap₂}
use Rattle.clap.specs.declared.builder.Arg.{Arg}
use Rattle.clap.specs.Words.{rule_of, with_rule}
use Rattle.xcp_program.specs.CommandLine.{chapter, cycles, numeric_rule, tasks, tools}
use Rattle.xcp_program.proofs.server_words.counted_command.Goals as goal

abbrev is_global : Arg → Bool
is_global a = a.global

pub returns-clause-app : goal.returns-clause-app
returns-clause-app c =
    let tools_is : rule_of c.help-tools.result ≡ numeric_rule tools = ap rule_of c.help-tools.ensures ∙ c.numeric.ensures.rule in
    let tasks_is : rule_of c.help-tasks.result ≡ numeric_rule tasks = ap rule_of c.help-tasks.ensures ∙ c.numeric-2.ensures.rule in
    let cycles_is : rule_of c.help-cycles.result ≡ numeric_rule cycles = ap rule_of c.help-cycles.ensures ∙ c.numeric-3.ensures.rule in
    let chapter_is : rule_of c.help-chapter.result ≡ numeric_rule chapter = ap rule_of c.help-chapter.ensures ∙ c.numeric-4.ensures.rule in
    let with_tools = c.in_ok-serve-2.ensures.shape (ap is_global c.help-tools.ensures ∙ c.numeric.ensures.local) ∙ ap₂ with_rule c.in_ok-serve.ensures.app tools_is in
    let with_tasks = c.in_ok-serve-3.ensures.shape (ap is_global c.help-tasks.ensures ∙ c.numeric-2.ensures.local) ∙ ap₂ with_rule with_tools tasks_is in
    let with_cycles = c.in_ok-serve-4.ensures.shape (ap is_global c.help-cycles.ensures ∙ c.numeric-3.ensures.local) ∙ ap₂ with_rule with_tasks cycles_is in
    c.in_ok-arg.ensures.shape (ap is_global c.help-chapter.ensures ∙ c.numeric-4.ensures.local) ∙ ap₂ with_rule with_cycles chapter_is
