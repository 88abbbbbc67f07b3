use Rattle.std.proofs.Common.{◌≡◌, codes, string_bytes, subst}
use Rattle.std.specs.Bool.{Decides}
use Rattle.std.proofs.lemmas.Bool.Decides.{Decides-eqb}
use Rattle.std.proofs.lemmas.Slice.Eq.{slice_eq-Decides}
use Rattle.xcp_telling.proofs.PlainLemmas.{second_is_judged}
use Rattle.xcp_telling.proofs.plain.asks_plainly.Goals as goal

pub returns-in-len2-up : goal.returns-in-len2-up
returns-in-len2-up c =
    second_is_judged string_bytes c.args.words.now c.word-item.result c.eq.result c.in-len2-up.len_at_least c.word-item.is
    (subst (λ text. Decides c.eq.result (text ≡ codes "--plain")) c.as_str.ensures.value
    (slice_eq-Decides Decides-eqb c.as_str.result.now (codes "--plain") c.eq.result c.eq.ensures))
