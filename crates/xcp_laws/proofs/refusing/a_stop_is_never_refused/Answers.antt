use Rattle.xcp_laws.proofs.FirstRefusals.{stop-all-answered, stop-selected-answered}
use Rattle.xcp_laws.proofs.refusing.a_stop_is_never_refused.Goals as goal

pub returns-clause-all : goal.returns-clause-all
returns-clause-all c = stop-all-answered

pub returns-clause-selected : goal.returns-clause-selected
returns-clause-selected c = stop-selected-answered
