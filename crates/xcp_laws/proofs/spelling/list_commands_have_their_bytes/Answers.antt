use Rattle.xcp_laws.proofs.SpeltCommands.{clear-daq-list, set-daq-ptr, write-daq, set-daq-list-mode, get-daq-list-mode, start-stop-daq-list, start-stop-synch, get-daq-clock, read-daq, get-daq-processor-info, get-daq-resolution-info, get-daq-event-info, free-daq, alloc-daq, alloc-odt, alloc-odt-entry, write-daq-multiple}
use Rattle.xcp_laws.proofs.spelling.list_commands_have_their_bytes.Goals as goal

pub returns-clause-clear_daq_list : goal.returns-clause-clear_daq_list
returns-clause-clear_daq_list c = clear-daq-list

pub returns-clause-set_daq_ptr : goal.returns-clause-set_daq_ptr
returns-clause-set_daq_ptr c = set-daq-ptr

pub returns-clause-write_daq : goal.returns-clause-write_daq
returns-clause-write_daq c = write-daq

pub returns-clause-set_daq_list_mode : goal.returns-clause-set_daq_list_mode
returns-clause-set_daq_list_mode c = set-daq-list-mode

pub returns-clause-get_daq_list_mode : goal.returns-clause-get_daq_list_mode
returns-clause-get_daq_list_mode c = get-daq-list-mode

pub returns-clause-start_stop_daq_list : goal.returns-clause-start_stop_daq_list
returns-clause-start_stop_daq_list c = start-stop-daq-list

pub returns-clause-start_stop_synch : goal.returns-clause-start_stop_synch
returns-clause-start_stop_synch c = start-stop-synch

pub returns-clause-get_daq_clock : goal.returns-clause-get_daq_clock
returns-clause-get_daq_clock c = get-daq-clock

pub returns-clause-read_daq : goal.returns-clause-read_daq
returns-clause-read_daq c = read-daq

pub returns-clause-get_daq_processor_info : goal.returns-clause-get_daq_processor_info
returns-clause-get_daq_processor_info c = get-daq-processor-info

pub returns-clause-get_daq_resolution_info : goal.returns-clause-get_daq_resolution_info
returns-clause-get_daq_resolution_info c = get-daq-resolution-info

pub returns-clause-get_daq_event_info : goal.returns-clause-get_daq_event_info
returns-clause-get_daq_event_info c = get-daq-event-info

pub returns-clause-free_daq : goal.returns-clause-free_daq
returns-clause-free_daq c = free-daq

pub returns-clause-alloc_daq : goal.returns-clause-alloc_daq
returns-clause-alloc_daq c = alloc-daq

pub returns-clause-alloc_odt : goal.returns-clause-alloc_odt
returns-clause-alloc_odt c = alloc-odt

pub returns-clause-alloc_odt_entry : goal.returns-clause-alloc_odt_entry
returns-clause-alloc_odt_entry c = alloc-odt-entry

pub returns-clause-write_daq_multiple : goal.returns-clause-write_daq_multiple
returns-clause-write_daq_multiple c = write-daq-multiple
