use Rattle.std.proofs.Common.{◌≡◌, rules, arith, length, sym, ap, ◌∙◌, subst}
use Rattle.sha2.specs.Hashers.{Holds256}
use Rattle.xcp_record.specs.FileFormat.{chapter_head}
use Rattle.xcp_record.specs.private.Calls.{SpellsCalls}
use Rattle.xcp_record.proofs.FormatLemmas.{chapter_whole, no_calls, other_digest, other_head, regrouped, too_many}
use Rattle.xcp_record.proofs.chapter.Parts.check.Goals as goal

pub returns-then-not-same-clause-checks : goal.returns-then-not-same-clause-checks
returns-then-not-same-clause-checks c = λ before held.
    let p = c.args.self.now in
    let is : length p.head ≡ 16 = search rules in
    let whole : length p.digest ≡ 32 = search rules in
    other_digest before c.args.number p.head p.calls.items p.digest is c.requires.size whole
    (λ same. c.if-not-same.ensures {u = tt} (c.in_ok-digest.ensures _ (c.update-2.ensures _ (c.update.ensures before held)) ∙ same))

pub returns-in_default-clause-checks : goal.returns-in_default-clause-checks
returns-in_default-clause-checks c = λ before held.
    let p = c.args.self.now in
    let is : length p.head ≡ 16 = search rules in
    let whole : length p.digest ≡ 32 = search rules in
    no_calls before c.args.number p.head p.calls.items p.digest is c.requires.size whole
    (λ strings spells. (c.in_default.ensures {u = tt}).none strings (subst (λ b. SpellsCalls b strings) (sym c.deref.ensures.value) spells))

pub returns-then-count-gt-MOST_CALLS-clause-checks : goal.returns-then-count-gt-MOST_CALLS-clause-checks
returns-then-count-gt-MOST_CALLS-clause-checks c = λ before held.
    let p = c.args.self.now in
    let is : length p.head ≡ 16 = search rules in
    let whole : length p.digest ≡ 32 = search rules in
    let some = c.in-Some.ensures.some in
    let count = some.2 in
    let many = c.if-count-gt-MOST_CALLS.true in
    too_many before c.args.number p.head p.calls.items p.digest some.0 is c.requires.size whole (subst (λ b. SpellsCalls b some.0) c.deref.ensures.value some.1) (omega (arith, count, many))

pub returns-then-not-same-2-clause-checks : goal.returns-then-not-same-2-clause-checks
returns-then-not-same-2-clause-checks c = λ before held.
    let p = c.args.self.now in
    let is : length p.head ≡ 16 = search rules in
    let whole : length p.digest ≡ 32 = search rules in
    let some = c.in-Some.ensures.some in
    let size : c.len.result ≡ length p.calls.items = search rules in
    other_head before c.args.number p.head p.calls.items p.digest some.0 is c.requires.size whole (subst (λ b. SpellsCalls b some.0) c.deref.ensures.value some.1)
    (λ same. c.if-not-same-2.ensures {u = tt} (c.chapter_head-head.ensures ∙ ap (λ n. chapter_head c.args.number n c.len.result) (sym some.2) ∙ ap (λ n. chapter_head c.args.number (length some.0) n) size ∙ same))

pub returns-clause-checks : goal.returns-clause-checks
returns-clause-checks c = λ before held.
    let p = c.args.self.now in
    let some = c.in-Some.ensures.some in
    let spells = subst (λ b. SpellsCalls b some.0) c.deref.ensures.value some.1 in
    let size : c.len.result ≡ length p.calls.items = search rules in
    let head = ap (λ n. chapter_head c.args.number (length some.0) n) (sym size) ∙ ap (λ n. chapter_head c.args.number n c.len.result) some.2 ∙ sym c.chapter_head-head.ensures ∙ c.if-not-same-2.ensures {u = tt} in
    let sum = sym (c.if-not-same.ensures {u = tt}) ∙ c.in_ok-digest.ensures _ (c.update-2.ensures _ (c.update.ensures before held)) in
    let count = some.2 in
    let few = c.if-count-gt-MOST_CALLS.false in (
      record {
        strings = some.0;
        chapter = record { each = spells.each; few = omega (arith, count, few) };
        whole = chapter_whole before c.args.number p.head p.calls.items p.digest some.0 spells head sum;
        spells = spells.whole;
        size = count;
      },
      subst (Holds256 _) (regrouped before p.head p.calls.items p.digest) (c.update-3.ensures _ (c.update-2.ensures _ (c.update.ensures before held))),
    )
