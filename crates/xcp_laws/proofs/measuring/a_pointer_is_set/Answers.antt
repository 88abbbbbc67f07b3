use Rattle.xcp_laws.proofs.WrittenEntries.{pointer-set}
use Rattle.xcp_laws.proofs.measuring.a_pointer_is_set.Goals as goal

pub returns : goal.returns
returns c = pointer-set
