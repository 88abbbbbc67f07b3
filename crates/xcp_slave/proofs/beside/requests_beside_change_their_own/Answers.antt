use Rattle.xcp_slave.proofs.UnaffectedPartLaws.{id-alone, text-alone, text-none, id-none, event-alone, bits-alone}
use Rattle.xcp_slave.proofs.beside.requests_beside_change_their_own.Goals as goal

pub returns-clause-id : goal.returns-clause-id
returns-clause-id c = id-alone

pub returns-clause-no_id : goal.returns-clause-no_id
returns-clause-no_id c = id-none

pub returns-clause-event_info : goal.returns-clause-event_info
returns-clause-event_info c = event-alone

pub returns-clause-bits : goal.returns-clause-bits
returns-clause-bits c = bits-alone

pub returns-clause-text : goal.returns-clause-text
returns-clause-text c = text-alone

pub returns-clause-no_text : goal.returns-clause-no_text
returns-clause-no_text c = text-none
