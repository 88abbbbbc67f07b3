use Rattle.xcp_slave.proofs.ClockLaws.{no-stamp, same-list, room-without}
use Rattle.xcp_slave.proofs.clock.a_list_without_time_stamps_has_none.Goals as goal

pub returns-clause-none : goal.returns-clause-none
returns-clause-none c = no-stamp

pub returns-clause-packets : goal.returns-clause-packets
returns-clause-packets c = same-list

pub returns-clause-room : goal.returns-clause-room
returns-clause-room c = room-without
