use Rattle.xcp_slave.proofs.PagePartLaws.{mode-kept, numbers-kept, signals-kept}
use Rattle.xcp_slave.proofs.beside.numbers_modes_and_signals_change_by_their_own.Goals as goal

pub returns-clause-numbers : goal.returns-clause-numbers
returns-clause-numbers c = numbers-kept

pub returns-clause-modes : goal.returns-clause-modes
returns-clause-modes c = mode-kept

pub returns-clause-signals : goal.returns-clause-signals
returns-clause-signals c = signals-kept
