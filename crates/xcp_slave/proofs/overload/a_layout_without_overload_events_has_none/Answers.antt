use Rattle.xcp_slave.proofs.OverloadLaws.{slave-unasked, step-unasked, run-unasked, sampled-alone, bytes-alone, overrun-alone, waiting-unasked, properties-unasked}
use Rattle.xcp_slave.proofs.overload.a_layout_without_overload_events_has_none.Goals as goal

pub returns-clause-slave : goal.returns-clause-slave
returns-clause-slave c = slave-unasked

pub returns-clause-step : goal.returns-clause-step
returns-clause-step c = step-unasked

pub returns-clause-run : goal.returns-clause-run
returns-clause-run c = run-unasked

pub returns-clause-sampled : goal.returns-clause-sampled
returns-clause-sampled c = sampled-alone

pub returns-clause-bytes : goal.returns-clause-bytes
returns-clause-bytes c = bytes-alone

pub returns-clause-overrun : goal.returns-clause-overrun
returns-clause-overrun c = overrun-alone

pub returns-clause-waiting : goal.returns-clause-waiting
returns-clause-waiting c = waiting-unasked

pub returns-clause-properties : goal.returns-clause-properties
returns-clause-properties c = properties-unasked
