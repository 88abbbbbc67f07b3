use Rattle.xcp_slave.proofs.MemoryLaws.{read-back}
use Rattle.xcp_slave.proofs.runs.what_is_written_reads_back.Goals as goal

pub returns : goal.returns
returns c = read-back
