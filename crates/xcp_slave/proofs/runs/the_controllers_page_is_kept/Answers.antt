use Rattle.xcp_slave.proofs.RunMemoryLaws.{ecu-run, others-run}
use Rattle.xcp_slave.proofs.runs.the_controllers_page_is_kept.Goals as goal

pub returns-clause-controller : goal.returns-clause-controller
returns-clause-controller c = ecu-run

pub returns-clause-others : goal.returns-clause-others
returns-clause-others c = others-run
