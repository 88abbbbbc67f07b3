use Rattle.std.proofs.Common.{arith}
use Rattle.xcp_slave.proofs.ClassLimitLemmas.{few-events}
use Rattle.xcp_slave.proofs.EventChannelLemmas.{event_there}
use Rattle.xcp_slave.proofs.slave.Slave.get_daq_event_info.Goals as goal

pub overflow_cast-channel : goal.overflow_cast-channel
overflow_cast-channel c =
    omega (arith, event_there c.layout-layout.result.now c.args.channel c.in_ok-told.ensures.ok.0, c.known.ensures.events_most, few-events c.layout-layout.result.now.class)
