use Rattle.xcp_slave.proofs.WriteLaws.{step-writes}
use Rattle.xcp_slave.proofs.RunMemoryLaws.{run-puts, last-stands}
use Rattle.xcp_slave.proofs.MemoryLaws.{reads-run}
use Rattle.xcp_slave.proofs.runs.memory_changes_by_writes.Goals as goal

pub returns-clause-step : goal.returns-clause-step
returns-clause-step c = step-writes

pub returns-clause-run : goal.returns-clause-run
returns-clause-run c = run-puts

pub returns-clause-reading : goal.returns-clause-reading
returns-clause-reading c = reads-run

pub returns-clause-last : goal.returns-clause-last
returns-clause-last c = last-stands
