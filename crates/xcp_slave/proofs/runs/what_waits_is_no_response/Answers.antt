use Rattle.xcp_slave.proofs.ErrorLaws.{waiting-responds, every-error}
use Rattle.xcp_slave.proofs.runs.what_waits_is_no_response.Goals as goal

pub returns-clause-waiting : goal.returns-clause-waiting
returns-clause-waiting c = waiting-responds

pub returns-clause-errors : goal.returns-clause-errors
returns-clause-errors c = every-error
