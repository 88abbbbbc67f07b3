use Rattle.xcp_slave.proofs.PacketQueueLaws.{step-queues, run-puts-in, run-queues, first-drained}
use Rattle.xcp_slave.proofs.queue.what_waits_is_a_queue.Goals as goal

pub returns-clause-step : goal.returns-clause-step
returns-clause-step c = step-queues

pub returns-clause-some : goal.returns-clause-some
returns-clause-some c = run-puts-in

pub returns-clause-run : goal.returns-clause-run
returns-clause-run c = run-queues

pub returns-clause-drain : goal.returns-clause-drain
returns-clause-drain c = first-drained
