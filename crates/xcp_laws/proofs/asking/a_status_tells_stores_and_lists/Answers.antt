use Rattle.xcp_laws.proofs.ToldValues.{status-store, status-running, status-still, status-rest}
use Rattle.xcp_laws.proofs.asking.a_status_tells_stores_and_lists.Goals as goal

pub returns-clause-store : goal.returns-clause-store
returns-clause-store c = status-store

pub returns-clause-running : goal.returns-clause-running
returns-clause-running c = status-running

pub returns-clause-still : goal.returns-clause-still
returns-clause-still c = status-still

pub returns-clause-rest : goal.returns-clause-rest
returns-clause-rest c = status-rest
