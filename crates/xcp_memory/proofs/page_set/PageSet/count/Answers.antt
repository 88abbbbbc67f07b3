use Rattle.xcp_memory.proofs.PageStoreLemmas.{stored_by, stored_count}
use Rattle.xcp_memory.proofs.page_set.PageSet.count.Goals as goal

pub returns : goal.returns
returns c = stored_count (stored_by c.self.inside c.args.self.now c.self.view_is c.self.invariant)
