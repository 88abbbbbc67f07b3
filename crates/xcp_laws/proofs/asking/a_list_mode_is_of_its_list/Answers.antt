use Rattle.xcp_laws.proofs.ToldValues.{mode-selected, mode-stamped, mode-running, mode-rest, mode-there}
use Rattle.xcp_laws.proofs.asking.a_list_mode_is_of_its_list.Goals as goal

pub returns-clause-selected : goal.returns-clause-selected
returns-clause-selected c = mode-selected

pub returns-clause-running : goal.returns-clause-running
returns-clause-running c = mode-running

pub returns-clause-rest : goal.returns-clause-rest
returns-clause-rest c = mode-rest

pub returns-clause-there : goal.returns-clause-there
returns-clause-there c = mode-there

pub returns-clause-stamped : goal.returns-clause-stamped
returns-clause-stamped c = mode-stamped
