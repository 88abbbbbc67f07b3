use Rattle.xcp_audit.proofs.NameLemmas.{one_caller}
use Rattle.xcp_audit.proofs.law.a_name_is_of_one_caller.Goals as goal

pub returns : goal.returns
returns c = one_caller
