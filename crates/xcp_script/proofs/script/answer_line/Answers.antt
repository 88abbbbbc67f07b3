use Rattle.std.proofs.Common.{rules}
use Rattle.xcp_script.proofs.MemoryShortageLemmas.{front_of_line}
use Rattle.xcp_script.proofs.script.answer_line.Goals as goal

pub returns-in-Some-clause-memory : goal.returns-in-Some-clause-memory
returns-in-Some-clause-memory c = λ is later. front_of_line _ _ _ _ _ later (rw is at c.answer_request.ensures.memory) (search rules) (search rules)
