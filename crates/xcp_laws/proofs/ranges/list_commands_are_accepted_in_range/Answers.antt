use Rattle.std.proofs.Common.{◌∙◌}
use Rattle.xcp_laws.proofs.ListRanges.{clear-daq-list, set-daq-ptr, write-daq, write-nowhere, set-daq-list-mode, get-daq-list-mode, start-stop-daq-list, start-stop-synch, get-daq-clock, read-daq, get-daq-event-info, alloc-daq, alloc-odt, alloc-odt-entry, papers-limits}
use Rattle.xcp_laws.proofs.ranges.list_commands_are_accepted_in_range.Goals as goal

pub returns-clause-clear_daq_list : goal.returns-clause-clear_daq_list
returns-clause-clear_daq_list c = clear-daq-list

pub returns-clause-set_daq_ptr : goal.returns-clause-set_daq_ptr
returns-clause-set_daq_ptr c = set-daq-ptr

pub returns-clause-write_daq : goal.returns-clause-write_daq
returns-clause-write_daq c = write-daq

pub returns-clause-write_nowhere : goal.returns-clause-write_nowhere
returns-clause-write_nowhere c = write-nowhere

pub returns-clause-set_daq_list_mode : goal.returns-clause-set_daq_list_mode
returns-clause-set_daq_list_mode c = set-daq-list-mode

pub returns-clause-get_daq_list_mode : goal.returns-clause-get_daq_list_mode
returns-clause-get_daq_list_mode c = get-daq-list-mode

pub returns-clause-start_stop_daq_list : goal.returns-clause-start_stop_daq_list
returns-clause-start_stop_daq_list c = start-stop-daq-list

pub returns-clause-start_stop_synch : goal.returns-clause-start_stop_synch
returns-clause-start_stop_synch c = start-stop-synch

pub returns-clause-get_daq_clock : goal.returns-clause-get_daq_clock
returns-clause-get_daq_clock c = get-daq-clock

pub returns-clause-read_daq : goal.returns-clause-read_daq
returns-clause-read_daq c = read-daq

pub returns-clause-get_daq_event_info : goal.returns-clause-get_daq_event_info
returns-clause-get_daq_event_info c = get-daq-event-info

pub returns-clause-alloc_daq : goal.returns-clause-alloc_daq
returns-clause-alloc_daq c = alloc-daq

pub returns-clause-alloc_odt : goal.returns-clause-alloc_odt
returns-clause-alloc_odt c = alloc-odt

pub returns-clause-alloc_odt_entry : goal.returns-clause-alloc_odt_entry
returns-clause-alloc_odt_entry c = alloc-odt-entry

pub returns-clause-class : goal.returns-clause-class
returns-clause-class c = λ v h. h.lists.class

pub returns-clause-papers : goal.returns-clause-papers
returns-clause-papers c = λ v h e. papers-limits v.daq.class (h.lists.class ∙ e)
