use Rattle.xcp_laws.proofs.EventAnswers.{event-long, event-nowhere, event-part, event-unsized, event-taken}
use Rattle.xcp_laws.proofs.events.an_event_is_asked_for_its_channel_first.Goals as goal

pub returns-clause-channel : goal.returns-clause-channel
returns-clause-channel c = event-nowhere

pub returns-clause-signals : goal.returns-clause-signals
returns-clause-signals c = event-unsized

pub returns-clause-taken : goal.returns-clause-taken
returns-clause-taken c = event-taken

pub returns-clause-long : goal.returns-clause-long
returns-clause-long c = event-long

pub returns-clause-part : goal.returns-clause-part
returns-clause-part c = event-part
