use Rattle.xcp_laws.proofs.LaterCommands.{get-version, no-version, other-version, multiple-needs, multiple-short, multiple-of-none}
use Rattle.xcp_laws.proofs.ranges.later_commands_are_accepted_in_range.Goals as goal

pub returns-clause-get_version : goal.returns-clause-get_version
returns-clause-get_version c = get-version

pub returns-clause-no_version : goal.returns-clause-no_version
returns-clause-no_version c = no-version

pub returns-clause-other_version : goal.returns-clause-other_version
returns-clause-other_version c = other-version

pub returns-clause-write_daq_multiple : goal.returns-clause-write_daq_multiple
returns-clause-write_daq_multiple c = multiple-needs

pub returns-clause-multiple_short : goal.returns-clause-multiple_short
returns-clause-multiple_short c = multiple-short

pub returns-clause-multiple_of_none : goal.returns-clause-multiple_of_none
returns-clause-multiple_of_none c = multiple-of-none
