use Rattle.xcp_laws.proofs.WrittenEntries.{mode-set, mode-stamp, mode-others, mode-rest}
use Rattle.xcp_laws.proofs.measuring.a_list_has_the_mode_that_is_set.Goals as goal

pub returns-clause-set : goal.returns-clause-set
returns-clause-set c = mode-set

pub returns-clause-others : goal.returns-clause-others
returns-clause-others c = mode-others

pub returns-clause-rest : goal.returns-clause-rest
returns-clause-rest c = mode-rest

pub returns-clause-stamp : goal.returns-clause-stamp
returns-clause-stamp c = mode-stamp
