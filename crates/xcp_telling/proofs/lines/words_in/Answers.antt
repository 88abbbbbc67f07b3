use Rattle.std.proofs.Common.{List, ℕ, inr, subst, ◌∙◌}
use Rattle.std.proofs.lemmas.Option.{IfSome_then}
use Rattle.xcp_telling.specs.Locating.{IsFirstLine}
use Rattle.xcp_telling.proofs.lines.words_in.Goals as goal

pub returns : goal.returns
returns c =
    IfSome_then c.words_behind.result c.words_behind.ensures
    (λ words first. inr (c.if-number-eq-NO_A2L.false, subst (λ (head : List ℕ). IsFirstLine head c.args.lines.now words.now) (c.as_str.ensures.value ∙ c.in_ok-head.ensures.ok) first))
