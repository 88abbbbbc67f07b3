use Rattle.xcp_slave.proofs.AcceptedCommandLaws.{id-mta, event-mta, set-mta}
use Rattle.xcp_slave.proofs.accepting.commands_set_the_mta.Goals as goal

pub returns-clause-set_mta : goal.returns-clause-set_mta
returns-clause-set_mta c = set-mta

pub returns-clause-id : goal.returns-clause-id
returns-clause-id c = id-mta

pub returns-clause-event_info : goal.returns-clause-event_info
returns-clause-event_info c = event-mta
