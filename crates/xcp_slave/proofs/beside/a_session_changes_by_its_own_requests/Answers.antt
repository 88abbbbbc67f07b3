use Rattle.xcp_slave.proofs.UnaffectedPartLaws.{mta-kept, session-kept, lists-kept, store-kept}
use Rattle.xcp_slave.proofs.beside.a_session_changes_by_its_own_requests.Goals as goal

pub returns-clause-mta : goal.returns-clause-mta
returns-clause-mta c = mta-kept

pub returns-clause-session : goal.returns-clause-session
returns-clause-session c = session-kept

pub returns-clause-lists : goal.returns-clause-lists
returns-clause-lists c = lists-kept

pub returns-clause-store : goal.returns-clause-store
returns-clause-store c = store-kept
