use Rattle.xcp_slave.proofs.ClockLaws.{time-told, time-alone, time-others, time-run}
use Rattle.xcp_slave.proofs.clock.the_time_never_goes_back.Goals as goal

pub returns-clause-told : goal.returns-clause-told
returns-clause-told c = time-told

pub returns-clause-alone : goal.returns-clause-alone
returns-clause-alone c = time-alone

pub returns-clause-others : goal.returns-clause-others
returns-clause-others c = time-others

pub returns-clause-run : goal.returns-clause-run
returns-clause-run c = time-run
