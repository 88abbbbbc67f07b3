use Rattle.xcp_laws.proofs.EventAnswers.{part-kept, part-outside, part-taken}
use Rattle.xcp_laws.proofs.events.signals_are_handed_over_in_parts.Goals as goal

pub returns-clause-inside : goal.returns-clause-inside
returns-clause-inside c = part-taken

pub returns-clause-outside : goal.returns-clause-outside
returns-clause-outside c = part-outside

pub returns-clause-stays : goal.returns-clause-stays
returns-clause-stays c = part-kept
