use Rattle.xcp_laws.proofs.ToldLimits.{comm-mode-told, pag-told, daq-told, daq-clock-told, resolution-told, resolution-clock-told, stamp-sizes, clock-told}
use Rattle.xcp_laws.proofs.infos.the_slave_is_told_as_it_is.Goals as goal

pub returns-clause-comm_mode : goal.returns-clause-comm_mode
returns-clause-comm_mode c = comm-mode-told

pub returns-clause-pag : goal.returns-clause-pag
returns-clause-pag c = pag-told

pub returns-clause-daq : goal.returns-clause-daq
returns-clause-daq c = daq-told

pub returns-clause-resolution : goal.returns-clause-resolution
returns-clause-resolution c = resolution-told

pub returns-clause-daq_with_clock : goal.returns-clause-daq_with_clock
returns-clause-daq_with_clock c = daq-clock-told

pub returns-clause-resolution_with_clock : goal.returns-clause-resolution_with_clock
returns-clause-resolution_with_clock c = resolution-clock-told

pub returns-clause-sizes : goal.returns-clause-sizes
returns-clause-sizes c = stamp-sizes

pub returns-clause-clock : goal.returns-clause-clock
returns-clause-clock c = clock-told
