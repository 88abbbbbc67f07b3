use Rattle.xcp_slave.proofs.StepLaws.{answers-single, answers-some}
use Rattle.xcp_slave.proofs.law.each_request_has_one_answer.Goals as goal

pub returns-clause-total : goal.returns-clause-total
returns-clause-total c = answers-some

pub returns-clause-single : goal.returns-clause-single
returns-clause-single c = answers-single
