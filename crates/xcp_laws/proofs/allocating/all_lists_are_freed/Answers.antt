use Rattle.xcp_laws.proofs.Allocations.{lists-freed}
use Rattle.xcp_laws.proofs.allocating.all_lists_are_freed.Goals as goal

pub returns : goal.returns
returns c = lists-freed
