use Rattle.std.proofs.Common.{◌≡◌, ◌∙◌, ℕ, List, false, slice_index_or, arith, ap, ap₂, sym, subst}
use Rattle.xcp_locked.specs.LockedSlave.{ChapterValue}
use Rattle.xcp_locked.specs.SettledReceipts.{receipts_for, tally}
use Rattle.xcp_service.specs.private.Waiting.{WaitingValue, is_due}
use Rattle.xcp_service.proofs.SheafLemmas.{seen_all, seen_few, seen_no, seen_none, seen_yes, wanted}
use Rattle.xcp_service.proofs.waiting.check_sheaf.Goals as goal

pub loop-k-init : goal.loop-k-init
loop-k-init g c = seen_none c.args.sheaf.now c.args.waiting.now

pub loop-k-preserved-then-not-is_due : goal.loop-k-preserved-then-not-is_due
loop-k-preserved-then-not-is_due g c =
    let s = c.args.sheaf.now in
    let w = c.index-waiting-k.result in
    seen_no s c.args.waiting.now c.loop-k.k c.loop-k.settled w c.loop-k-test.true (sym (ap (is_due s) c.index-waiting-k.is) ∙ (sym c.is_due.ensures ∙ c.if-not-is_due.true)) c.loop-k.invariant

pub overflow_add-settled : goal.overflow_add-settled
overflow_add-settled g c =
    let s = c.args.sheaf.now in
    let ws = c.args.waiting.now in
    let w = c.index-waiting-k.result in
    let at = slice_index_or ws c.loop-k.k w in
    let due = sym (ap (is_due s) c.index-waiting-k.is) ∙ (sym c.is_due.ensures ∙ c.if-not-is_due.false) in
    let chapter : c.one.inside.chapter ≡ at.chapter = ap (λ (v : WaitingValue). v.chapter) (c.one.view_is ∙ c.index-waiting-k.is) in
    let owed : c.one.inside.owed ≡ at.owed = ap (λ (v : WaitingValue). v.owed) (c.one.view_is ∙ c.index-waiting-k.is) in
    let fits = subst (λ (z : ChapterValue). receipts_for false z.number s.receipts ≡ tally s.caller z.number 0 z.entries) chapter (c.in_default.ensures {u = tt}) in
    let more = ap₂ (λ (l : List ℕ) (i : ℕ). slice_index_or l i 0) owed c.caller-caller.ensures ∙ wanted s ws c.loop-k.k w c.loop-k-test.true c.requires.counted due in
    let few = seen_few s ws c.loop-k.k c.loop-k.settled _ w c.requires.apart c.loop-k-test.true due c.loop-k.invariant fits more in
    omega (arith, few, c.len-all.ensures, c.len-all.type_inv)

pub loop-k-preserved : goal.loop-k-preserved
loop-k-preserved g c =
    let s = c.args.sheaf.now in
    let ws = c.args.waiting.now in
    let w = c.index-waiting-k.result in
    let at = slice_index_or ws c.loop-k.k w in
    let due = sym (ap (is_due s) c.index-waiting-k.is) ∙ (sym c.is_due.ensures ∙ c.if-not-is_due.false) in
    let chapter : c.one.inside.chapter ≡ at.chapter = ap (λ (v : WaitingValue). v.chapter) (c.one.view_is ∙ c.index-waiting-k.is) in
    let owed : c.one.inside.owed ≡ at.owed = ap (λ (v : WaitingValue). v.owed) (c.one.view_is ∙ c.index-waiting-k.is) in
    let fits = subst (λ (z : ChapterValue). receipts_for false z.number s.receipts ≡ tally s.caller z.number 0 z.entries) chapter (c.in_default.ensures {u = tt}) in
    let more = ap₂ (λ (l : List ℕ) (i : ℕ). slice_index_or l i 0) owed c.caller-caller.ensures ∙ wanted s ws c.loop-k.k w c.loop-k-test.true c.requires.counted due in
    seen_yes s ws c.loop-k.k c.loop-k.settled _ w c.requires.apart c.loop-k-test.true due c.loop-k.invariant fits more

pub returns-clause-fits : goal.returns-clause-fits
returns-clause-fits g c =
    let end = c.loop-k.auto.k-end in
    seen_all c.args.sheaf.now c.args.waiting.now c.loop-k.k c.loop-k.settled (omega (arith, end, c.loop-k-test.false)) (c.if-settled-all.false ∙ c.len-all.ensures) c.loop-k.invariant
