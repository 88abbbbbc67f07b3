use Rattle.xcp_laws.proofs.ManyElements.{first-refused, others-written, two-written}
use Rattle.xcp_laws.proofs.many.many_are_ones_in_turn.Goals as goal

pub returns-clause-first : goal.returns-clause-first
returns-clause-first c = first-refused

pub returns-clause-others : goal.returns-clause-others
returns-clause-others c = others-written

pub returns-clause-two : goal.returns-clause-two
returns-clause-two c = two-written
