use Rattle.xcp_laws.proofs.NoCommands.{silent-before, synch-answered}
use Rattle.xcp_laws.proofs.refusing.connect_comes_first.Goals as goal

pub returns-clause-silent : goal.returns-clause-silent
returns-clause-silent c = silent-before

pub returns-clause-synch : goal.returns-clause-synch
returns-clause-synch c = synch-answered
