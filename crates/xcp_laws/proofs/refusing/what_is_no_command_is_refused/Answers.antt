use Rattle.xcp_laws.proofs.NoCommands.{unknown-refused, short-refused, empty-ignored}
use Rattle.xcp_laws.proofs.refusing.what_is_no_command_is_refused.Goals as goal

pub returns-clause-unknown : goal.returns-clause-unknown
returns-clause-unknown c = unknown-refused

pub returns-clause-short : goal.returns-clause-short
returns-clause-short c = short-refused

pub returns-clause-empty : goal.returns-clause-empty
returns-clause-empty c = empty-ignored
