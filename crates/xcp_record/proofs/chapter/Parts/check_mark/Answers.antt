use Rattle.std.proofs.Common.{◌≡◌, rules, length, sym, ◌∙◌}
use Rattle.xcp_record.proofs.MarkLemmas.{mark_is, other_count, other_sum}
use Rattle.xcp_record.proofs.chapter.Parts.check_mark.Goals as goal

pub returns-then-not-same-clause-checks : goal.returns-then-not-same-clause-checks
returns-then-not-same-clause-checks c = λ before held.
    let p = c.args.self.now in
    let whole : length p.digest ≡ 32 = search rules in
    other_count before c.args.calls p.head p.calls.items p.digest c.requires.begins c.requires.size whole
    (λ same. c.if-not-same.ensures {u = tt} (c.deref.ensures.value ∙ same ∙ sym c.to_le_bytes.ensures))

pub returns-then-not-same-2-clause-checks : goal.returns-then-not-same-2-clause-checks
returns-then-not-same-2-clause-checks c = λ before held.
    let p = c.args.self.now in
    let whole : length p.digest ≡ 32 = search rules in
    let count = sym c.deref.ensures.value ∙ c.if-not-same.ensures {u = tt} ∙ c.to_le_bytes.ensures in
    other_sum before c.args.calls p.head p.calls.items p.digest c.in_ok-digest.digest c.requires.begins c.requires.size whole count
    (c.in_ok-digest.ensures _ (c.update-2.ensures _ (c.update.ensures before held))) (c.if-not-same-2.ensures {u = tt})

pub returns-clause-checks : goal.returns-clause-checks
returns-clause-checks c = λ before held.
    let p = c.args.self.now in
    let count = sym c.deref.ensures.value ∙ c.if-not-same.ensures {u = tt} ∙ c.to_le_bytes.ensures in
    mark_is before c.args.calls p.head p.calls.items p.digest c.in_ok-digest.digest c.requires.begins count
    (c.in_ok-digest.ensures _ (c.update-2.ensures _ (c.update.ensures before held))) (c.if-not-same-2.ensures {u = tt})
