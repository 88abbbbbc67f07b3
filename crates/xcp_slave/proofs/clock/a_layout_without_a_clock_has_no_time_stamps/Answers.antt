use Rattle.xcp_slave.proofs.ClockLaws.{no-lists-stamped, no-modes, no-clock, plain-properties, plain-resolution}
use Rattle.xcp_slave.proofs.clock.a_layout_without_a_clock_has_no_time_stamps.Goals as goal

pub returns-clause-lists : goal.returns-clause-lists
returns-clause-lists c = no-lists-stamped

pub returns-clause-modes : goal.returns-clause-modes
returns-clause-modes c = no-modes

pub returns-clause-clock : goal.returns-clause-clock
returns-clause-clock c = no-clock

pub returns-clause-properties : goal.returns-clause-properties
returns-clause-properties c = plain-properties

pub returns-clause-resolution : goal.returns-clause-resolution
returns-clause-resolution c = plain-resolution
