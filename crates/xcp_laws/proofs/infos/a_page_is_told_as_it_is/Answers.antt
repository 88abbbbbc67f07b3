use Rattle.xcp_laws.proofs.ToldLimits.{reference-told, working-told}
use Rattle.xcp_laws.proofs.infos.a_page_is_told_as_it_is.Goals as goal

pub returns-clause-reference : goal.returns-clause-reference
returns-clause-reference c = reference-told

pub returns-clause-working : goal.returns-clause-working
returns-clause-working c = working-told
