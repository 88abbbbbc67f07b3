use Rattle.xcp_laws.proofs.ManyElements.{one-written}
use Rattle.xcp_laws.proofs.many.one_of_many_is_one.Goals as goal

pub returns : goal.returns
returns c = one-written
