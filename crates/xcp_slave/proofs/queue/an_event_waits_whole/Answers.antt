use Rattle.xcp_slave.proofs.PacketQueueLaws.{event-whole, event-none, event-room, event-overrun}
use Rattle.xcp_slave.proofs.queue.an_event_waits_whole.Goals as goal

pub returns-clause-all : goal.returns-clause-all
returns-clause-all c = event-whole

pub returns-clause-none : goal.returns-clause-none
returns-clause-none c = event-none

pub returns-clause-room : goal.returns-clause-room
returns-clause-room c = event-room

pub returns-clause-overrun : goal.returns-clause-overrun
returns-clause-overrun c = event-overrun
