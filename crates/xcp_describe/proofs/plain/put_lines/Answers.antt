use Rattle.std.proofs.Common.{codes, refl, rules}
use Rattle.std.specs.Char.{encode_utf8}
use Rattle.xcp_describe.proofs.PlainLemmas.{appends_both, appends_none}
use Rattle.xcp_describe.proofs.plain.put_lines.Goals as goal

pub loop-line-init : goal.loop-line-init
loop-line-init c = appends_none _

pub loop-line-preserved : goal.loop-line-preserved
unfolding encode_utf8
loop-line-preserved c =
    appends_both _ _ _
    (appends_both _ _ _ c.loop-line.invariant (record { more = codes ": "; plain = record { characters = codes ": "; plain = refl; encoded = refl }; is = search rules }))
    c.in_ok-put_characters.ensures
