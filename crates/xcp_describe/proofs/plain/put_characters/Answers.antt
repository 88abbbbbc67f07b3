use Rattle.xcp_describe.proofs.PlainLemmas.{appends_both, appends_none}
use Rattle.xcp_describe.proofs.plain.put_characters.Goals as goal

pub loop-c-init : goal.loop-c-init
loop-c-init c = appends_none _

pub loop-c-preserved : goal.loop-c-preserved
loop-c-preserved c = appends_both _ _ _ c.loop-c.invariant c.in_ok-put_character.ensures
