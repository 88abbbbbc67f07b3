use Rattle.xcp_laws.proofs.ToldValues.{event-told, event-there}
use Rattle.xcp_laws.proofs.asking.an_event_is_told_as_it_is.Goals as goal

pub returns-clause-told : goal.returns-clause-told
returns-clause-told c = event-told

pub returns-clause-there : goal.returns-clause-there
returns-clause-there c = event-there
