use Rattle.std.proofs.Common.{inl, inr}
use Rattle.xcp_config.proofs.TableFaultLemmas.{not_text}
use Rattle.xcp_config.proofs.reading.read_layout_with.Goals as goal

pub returns-in-Ok-clause-text : goal.returns-in-Ok-clause-text
returns-in-Ok-clause-text c = λ e.
    let r = rw e at c.read_table.ensures.refused in
    elim r [ inl m ↦ cc | inr k ↦ absurd (not_text _ _ k) ]
