use Rattle.xcp_script.proofs.MemoryShortageLemmas.{front_taken, kept_more}
use Rattle.xcp_script.proofs.script.answer_request.Goals as goal

pub returns-then-is_err-clause-memory : goal.returns-then-is_err-clause-memory
returns-then-is_err-clause-memory c = λ later. front_taken _ _ _ later c.in-Ok.ensures.ok

pub returns-then-is_err-clause-kept : goal.returns-then-is_err-clause-kept
returns-then-is_err-clause-kept c = λ text front. kept_more _ _ _ text c.in-Ok.ensures.ok front

pub returns-clause-kept : goal.returns-clause-kept
returns-clause-kept c = λ text front. kept_more _ _ _ text c.in-Ok.ensures.ok front
