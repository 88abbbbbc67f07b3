use Rattle.xcp_slave.proofs.PacketIdentifierLaws.{identified, first-zero, next-pid, told-pid}
use Rattle.xcp_slave.proofs.queue.a_pid_names_one_odt.Goals as goal

pub returns-clause-one : goal.returns-clause-one
returns-clause-one c = identified

pub returns-clause-zero : goal.returns-clause-zero
returns-clause-zero c = first-zero

pub returns-clause-next : goal.returns-clause-next
returns-clause-next c = next-pid

pub returns-clause-told : goal.returns-clause-told
returns-clause-told c = told-pid
