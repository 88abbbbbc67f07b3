use Rattle.xcp_laws.proofs.ListModes.{list-started, list-stopped, list-selected, list-others}
use Rattle.xcp_laws.proofs.switching.a_list_is_switched_alone.Goals as goal

pub returns-clause-start : goal.returns-clause-start
returns-clause-start c = list-started

pub returns-clause-stop : goal.returns-clause-stop
returns-clause-stop c = list-stopped

pub returns-clause-select : goal.returns-clause-select
returns-clause-select c = list-selected

pub returns-clause-others : goal.returns-clause-others
returns-clause-others c = list-others
