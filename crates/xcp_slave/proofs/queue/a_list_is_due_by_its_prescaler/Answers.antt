use Rattle.xcp_slave.proofs.DueListLaws.{started-due, chosen-due, stopped-due, chosen-stopped, all-stopped, due-runs}
use Rattle.xcp_slave.proofs.queue.a_list_is_due_by_its_prescaler.Goals as goal

pub returns-clause-started : goal.returns-clause-started
returns-clause-started c = started-due

pub returns-clause-selected : goal.returns-clause-selected
returns-clause-selected c = chosen-due

pub returns-clause-stopped : goal.returns-clause-stopped
returns-clause-stopped c = stopped-due

pub returns-clause-stopped_selected : goal.returns-clause-stopped_selected
returns-clause-stopped_selected c = chosen-stopped

pub returns-clause-stopped_all : goal.returns-clause-stopped_all
returns-clause-stopped_all c = all-stopped

pub returns-clause-runs : goal.returns-clause-runs
returns-clause-runs c = due-runs
