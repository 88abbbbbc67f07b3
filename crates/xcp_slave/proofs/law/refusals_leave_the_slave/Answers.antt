use Rattle.xcp_slave.proofs.RefusalLaws.{error-leaves, refusal-leaves, overrun-leaves}
use Rattle.xcp_slave.proofs.law.refusals_leave_the_slave.Goals as goal

pub returns-clause-errors : goal.returns-clause-errors
returns-clause-errors c = error-leaves

pub returns-clause-others : goal.returns-clause-others
returns-clause-others c = refusal-leaves

pub returns-clause-overrun : goal.returns-clause-overrun
returns-clause-overrun c = overrun-leaves
