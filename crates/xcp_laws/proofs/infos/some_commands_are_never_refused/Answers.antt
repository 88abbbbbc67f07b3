use Rattle.xcp_laws.proofs.ToldLimits.{disconnect-accepted, status-accepted, comm-mode-accepted, id-accepted, pag-accepted, daq-accepted, resolution-accepted, free-accepted}
use Rattle.xcp_laws.proofs.infos.some_commands_are_never_refused.Goals as goal

pub returns-clause-disconnect : goal.returns-clause-disconnect
returns-clause-disconnect c = disconnect-accepted

pub returns-clause-get_status : goal.returns-clause-get_status
returns-clause-get_status c = status-accepted

pub returns-clause-get_comm_mode_info : goal.returns-clause-get_comm_mode_info
returns-clause-get_comm_mode_info c = comm-mode-accepted

pub returns-clause-get_id : goal.returns-clause-get_id
returns-clause-get_id c = id-accepted

pub returns-clause-get_pag_processor_info : goal.returns-clause-get_pag_processor_info
returns-clause-get_pag_processor_info c = pag-accepted

pub returns-clause-get_daq_processor_info : goal.returns-clause-get_daq_processor_info
returns-clause-get_daq_processor_info c = daq-accepted

pub returns-clause-get_daq_resolution_info : goal.returns-clause-get_daq_resolution_info
returns-clause-get_daq_resolution_info c = resolution-accepted

pub returns-clause-free_daq : goal.returns-clause-free_daq
returns-clause-free_daq c = free-accepted
