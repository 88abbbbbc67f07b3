use Rattle.std.proofs.Common.{◌∙◌, Option, ap, length, subst, sym, arith}
use Rattle.xcp_locked.specs.SettledReceipts.{receipts_for}
use Rattle.xcp_locked.proofs.TallyLemmas.{meets, wrong, too_many}
use Rattle.xcp_locked.proofs.ComparedReceiptLemmas.{IsAt, at_next, more_left, stands}
use Rattle.xcp_locked.proofs.settling.settled.Goals as goal

pub returns-then-not-is_receipt : goal.returns-then-not-is_receipt
returns-then-not-is_receipt c =
    let was = c.loop-at.invariant in
    wrong _ c.args.chapter _ _ _ (receipts_for c.args.later c.args.chapter c.args.receipts.now.list) _ _ c.in-Some.entry was.0 was.1.few c.in-Some.ensures (sym c.caller.ensures ∙ c.if-caller-number.false) (λ same.
    c.if-not-is_receipt.ensures {u = tt} (sym (stands _ _ _ _ was.1) ∙ same))

pub overflow_add-met : goal.overflow_add-met
overflow_add-met c = let few = c.loop-at.invariant.3 in omega (arith, few, c.loop-at-test.true, c.len-at-end.type_inv)

pub loop-at-preserved : goal.loop-at-preserved
loop-at-preserved c =
    let was = c.loop-at.invariant in
    let is = c.if-not-is_receipt.ensures {u = tt} in
    let all = receipts_for c.args.later c.args.chapter c.args.receipts.now.list in
    let here = subst (λ (o : Option _). IsAt all c.loop-at.met o (receipts_for c.args.later c.args.chapter c.loop-at.left)) is was.1 in (
      meets _ c.args.chapter _ _ _ all _ _ c.in-Some.entry was.0 c.in-Some.ensures (sym c.caller.ensures ∙ c.if-caller-number.false) (stands _ _ _ _ here),
      at_next _ _ _ _ _ _ here c.next_compared-next-in-loop-at.ensures,
      (let l = ap length c.in-Some.ensures in let before = was.2 in omega (arith, l, before)),
      (let few = was.3 in omega (arith, few)),
    )

pub returns-in-Some-next : goal.returns-in-Some-next
returns-in-Some-next c =
    let was = c.loop-at.invariant in
    let all = receipts_for c.args.later c.args.chapter c.args.receipts.now.list in
    let here = subst (λ (o : Option _). IsAt all c.loop-at.met o (receipts_for c.args.later c.args.chapter c.loop-at.left)) c.in-Some-next.is was.1 in
    too_many _ c.args.chapter c.loop-at.at _ _ all c.loop-at.entries was.0 was.1.few (omega (arith, was.2, c.loop-at-test.false, c.len-at-end.ensures)) (more_left _ _ _ _ here)
