use Rattle.xcp_slave.proofs.RunLaws.{run-some, run-single, run-layout}
use Rattle.xcp_slave.proofs.law.each_run_has_one_outcome.Goals as goal

pub returns-clause-total : goal.returns-clause-total
returns-clause-total c = run-some

pub returns-clause-single : goal.returns-clause-single
returns-clause-single c = run-single

pub returns-clause-layout : goal.returns-clause-layout
returns-clause-layout c = run-layout
