use Rattle.xcp_memory.proofs.WriteRefusalLaws.{outside_is_denied, protected_is_refused}
use Rattle.xcp_memory.proofs.access_laws.writes_are_refused.Goals as goal

pub returns-clause-outside : goal.returns-clause-outside
returns-clause-outside c = outside_is_denied

pub returns-clause-protected : goal.returns-clause-protected
returns-clause-protected c = protected_is_refused
