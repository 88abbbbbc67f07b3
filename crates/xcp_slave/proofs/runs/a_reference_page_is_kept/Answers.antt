use Rattle.xcp_slave.proofs.RunMemoryLaws.{reference-step, reference-run}
use Rattle.xcp_slave.proofs.runs.a_reference_page_is_kept.Goals as goal

pub returns-clause-step : goal.returns-clause-step
returns-clause-step c = reference-step

pub returns-clause-run : goal.returns-clause-run
returns-clause-run c = reference-run
