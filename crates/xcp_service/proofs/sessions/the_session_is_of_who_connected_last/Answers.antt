use Rattle.xcp_service.proofs.SessionLemmas.{of_who_connected_last}
use Rattle.xcp_service.proofs.sessions.the_session_is_of_who_connected_last.Goals as goal

pub returns : goal.returns
returns c = of_who_connected_last
