use Rattle.std.proofs.Common.{◌++◌, List, ℕ, ap, sym, ◌∙◌}
use Rattle.std.proofs.lemmas.Fmt.{decimal_digit}
use Rattle.xcp_script.proofs.AnswerTextLemmas.{pushed_two, pushed_three}
use Rattle.xcp_script.proofs.answer_text.push_decimal.Goals as goal
use Rattle.xcp_script.proofs.answer_text.push_decimal.Goals.{then-number-ge100, else-number-ge100}

pub returns-then-number-lt10-clause-items : goal.returns-then-number-lt10-clause-items
returns-then-number-lt10-clause-items c =
    c.push_reserved.ensures.items ∙ ap (λ (xs : List ℕ). c.args.texts.now.items ++ xs) (sym (decimal_digit c.args.number c.if-number-lt10.true))

pub returns-clause-items : goal.returns-clause-items
returns-clause-items c =
    elim c.if-number-ge100.branch [
      | then-number-ge100 w ↦ pushed_three _ _ _ _ _ w.if-number-ge100.true c.ranges.number.fits w.push_reserved-then-number-ge100.ensures.items (rw w.texts-is at c.push_reserved-2.ensures.items) c.push_reserved-3.ensures.items
      | else-number-ge100 w ↦ pushed_two _ _ _ _ c.if-number-lt10.false w.if-number-ge100.false (rw w.texts-is at c.push_reserved-2.ensures.items) c.push_reserved-3.ensures.items
    ]
