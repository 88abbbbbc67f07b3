use Rattle.xcp_laws.proofs.ToldLimits.{intel-word, motorola-word, intel-double, motorola-double}
use Rattle.xcp_laws.proofs.infos.numbers_are_told_in_their_order.Goals as goal

pub returns-clause-word : goal.returns-clause-word
returns-clause-word c = intel-word

pub returns-clause-word_motorola : goal.returns-clause-word_motorola
returns-clause-word_motorola c = motorola-word

pub returns-clause-double : goal.returns-clause-double
returns-clause-double c = intel-double

pub returns-clause-double_motorola : goal.returns-clause-double_motorola
returns-clause-double_motorola c = motorola-double
