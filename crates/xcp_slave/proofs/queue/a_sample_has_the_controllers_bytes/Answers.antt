use Rattle.xcp_slave.proofs.SampledByteLaws.{event-reads}
use Rattle.xcp_slave.proofs.queue.a_sample_has_the_controllers_bytes.Goals as goal

pub returns : goal.returns
returns c = event-reads
