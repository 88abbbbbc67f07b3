use Rattle.xcp_slave.proofs.SlaveInvariantLaws.{opening-slave, answers-kept, run-slave}
use Rattle.xcp_slave.proofs.runs.each_run_stays_within_its_limits.Goals as goal

pub returns-clause-opening : goal.returns-clause-opening
returns-clause-opening c = opening-slave

pub returns-clause-step : goal.returns-clause-step
returns-clause-step c = answers-kept

pub returns-clause-run : goal.returns-clause-run
returns-clause-run c = run-slave
