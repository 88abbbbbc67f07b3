use Rattle.xcp_laws.proofs.KeptSelections.{selection-kept}
use Rattle.xcp_laws.proofs.switching.a_selection_is_kept.Goals as goal

pub returns : goal.returns
returns c = selection-kept
