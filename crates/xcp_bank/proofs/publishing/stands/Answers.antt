use Rattle.std.proofs.Common.{true≢false, sym, ◌∙◌}
use Rattle.std.proofs.lemmas.Bool.{eq-eqb, eqb-true}
use Rattle.xcp_bank.proofs.publishing.stands.Goals as goal

pub returns : goal.returns
returns c = λ w d.
    let p = c.peek_word.ensures w d in (
      p.0,
      p.1,
      (
        p.2.0,
        (λ yes. sym p.2.1 ∙ eqb-true c.peek_word.result c.args.word yes),
        (λ no same. true≢false (sym (eq-eqb c.peek_word.result c.args.word (p.2.1 ∙ same)) ∙ no)),
      ),
    )
