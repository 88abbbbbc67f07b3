use Rattle.xcp_laws.proofs.Allocations.{list-count, lists-kept, lists-new, lists-rest}
use Rattle.xcp_laws.proofs.allocating.new_lists_come_behind.Goals as goal

pub returns-clause-count : goal.returns-clause-count
returns-clause-count c = list-count

pub returns-clause-kept : goal.returns-clause-kept
returns-clause-kept c = lists-kept

pub returns-clause-new : goal.returns-clause-new
returns-clause-new c = lists-new

pub returns-clause-rest : goal.returns-clause-rest
returns-clause-rest c = lists-rest
