use Rattle.std.proofs.Common.{◌∙◌, sym, ap, length, refl, arith}
use Rattle.xcp_locked.specs.SettledReceipts.{compared}
use Rattle.xcp_locked.proofs.ComparedReceiptLemmas.{comes_next, none_left, passes_over}
use Rattle.xcp_locked.proofs.settling.next_compared.Goals as goal

pub loop-passed-init : goal.loop-passed-init
loop-passed-init c = (refl, omega arith)

pub unreachable-requires : goal.unreachable-requires
unreachable-requires c =
    let none = ap length (c.in_default.ensures {u = tt}).0 in
    let count = c.loop-passed.invariant.1 in
    omega (arith, none, count, c.loop-passed-test.true, c.len-passed-end.ensures)

pub returns-then-is_compared : goal.returns-then-is_compared
returns-then-is_compared c =
    c.loop-passed.invariant.0
    ∙ comes_next c.args.later c.args.chapter c.loop-passed.left c.next_lent.new.self c.in-Some.receipt (c.in-Some.ensures {u = tt})
    (ap (compared c.args.later c.args.chapter) (sym c.chapter.ensures) ∙ (sym c.is_compared.ensures ∙ c.if-is_compared.true))

pub loop-passed-preserved : goal.loop-passed-preserved
loop-passed-preserved c =
    let count = c.loop-passed.invariant.1 in
    let one = ap length (c.in-Some.ensures {u = tt}) in (
      c.loop-passed.invariant.0
          ∙ passes_over c.args.later c.args.chapter c.loop-passed.left c.next_lent.new.self c.in-Some.receipt (c.in-Some.ensures {u = tt})
          (ap (compared c.args.later c.args.chapter) (sym c.chapter.ensures) ∙ (sym c.is_compared.ensures ∙ c.if-is_compared.false)),
      omega (arith, count, one),
    )

pub returns : goal.returns
returns c =
    let count = c.loop-passed.invariant.1 in
    c.loop-passed.invariant.0
    ∙ none_left c.args.later c.args.chapter c.loop-passed.left (omega (arith, count, c.loop-passed-test.false, c.len-passed-end.ensures))
