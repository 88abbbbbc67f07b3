use Rattle.std.proofs.Common.{sym, ◌∙◌, rules}
use Rattle.std.proofs.lemmas.Result.{on_ok_weaker}
use Rattle.xcp_describe.proofs.PlainLemmas.{control_below, plain_character, plain_escape}
use Rattle.xcp_describe.proofs.plain.put_character.Goals as goal

pub returns-then-is_control : goal.returns-then-is_control
returns-then-is_control c =
    on_ok_weaker c.put_escape.result
    (λ e. record { more = _; plain = plain_escape c.args.c (control_below c.args.c (sym c.is_control.ensures ∙ c.if-is_control.true)); is = e })
    c.put_escape.ensures

pub returns-else-is_control : goal.returns-else-is_control
returns-else-is_control c =
    on_ok_weaker c.push.result
    (λ e. record { more = _; plain = plain_character c.args.c (sym c.is_control.ensures ∙ c.if-is_control.false); is = e })
    (search rules)
