use Rattle.std.proofs.Common.{ℕ, List, Bor, Option, IfSome, subst, ◌∙◌}
use Rattle.xcp_telling.specs.Locating.{IsWordsOn}
use Rattle.xcp_telling.proofs.layouts.words_of_layout.Goals as goal

-- the lines that are looked at are those that the check has written
pub returns-in-Some : goal.returns-in-Some
returns-in-Some c =
    let read = c.in-Ok.ensures.cases.0 ∙ c.as_slice.ensures.value in
    let told = subst (λ (found : Option (Bor (List ℕ))). IfSome found (λ w. IsWordsOn c.args.number c.in-Ok.lines.now w.now)) c.in-Some.is c.in_ok-words.ensures in
    let on = subst (λ (lines : List ℕ). IsWordsOn c.args.number lines c.in-Some.words.now) read told in
    (c.in_ok-lines.field-0-0, (c.in_ok-lines.lines.items, (c.in-Some.words.now, (c.in_ok-lines.ensures.found, (on, c.in_ok-located-in-Some.ensures)))))
