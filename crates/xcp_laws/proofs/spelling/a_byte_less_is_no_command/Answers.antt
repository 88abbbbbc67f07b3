use Rattle.xcp_laws.proofs.SpeltCommands.{connect-short, get-id-short, set-request-short, set-mta-short, upload-short, short-upload-short, build-checksum-short, download-short, download-next-short, short-download-short, modify-bits-short, set-cal-page-short, get-cal-page-short, get-segment-info-short, get-page-info-short, set-segment-mode-short, get-segment-mode-short, copy-cal-page-short, clear-daq-list-short, set-daq-ptr-short, write-daq-short, set-daq-list-mode-short, get-daq-list-mode-short, start-stop-daq-list-short, start-stop-synch-short, get-daq-event-info-short, alloc-daq-short, alloc-odt-short, alloc-odt-entry-short}
use Rattle.xcp_laws.proofs.spelling.a_byte_less_is_no_command.Goals as goal

pub returns-clause-connect : goal.returns-clause-connect
returns-clause-connect c = connect-short

pub returns-clause-get_id : goal.returns-clause-get_id
returns-clause-get_id c = get-id-short

pub returns-clause-set_request : goal.returns-clause-set_request
returns-clause-set_request c = set-request-short

pub returns-clause-set_mta : goal.returns-clause-set_mta
returns-clause-set_mta c = set-mta-short

pub returns-clause-upload : goal.returns-clause-upload
returns-clause-upload c = upload-short

pub returns-clause-short_upload : goal.returns-clause-short_upload
returns-clause-short_upload c = short-upload-short

pub returns-clause-build_checksum : goal.returns-clause-build_checksum
returns-clause-build_checksum c = build-checksum-short

pub returns-clause-download : goal.returns-clause-download
returns-clause-download c = download-short

pub returns-clause-download_next : goal.returns-clause-download_next
returns-clause-download_next c = download-next-short

pub returns-clause-short_download : goal.returns-clause-short_download
returns-clause-short_download c = short-download-short

pub returns-clause-modify_bits : goal.returns-clause-modify_bits
returns-clause-modify_bits c = modify-bits-short

pub returns-clause-set_cal_page : goal.returns-clause-set_cal_page
returns-clause-set_cal_page c = set-cal-page-short

pub returns-clause-get_cal_page : goal.returns-clause-get_cal_page
returns-clause-get_cal_page c = get-cal-page-short

pub returns-clause-get_segment_info : goal.returns-clause-get_segment_info
returns-clause-get_segment_info c = get-segment-info-short

pub returns-clause-get_page_info : goal.returns-clause-get_page_info
returns-clause-get_page_info c = get-page-info-short

pub returns-clause-set_segment_mode : goal.returns-clause-set_segment_mode
returns-clause-set_segment_mode c = set-segment-mode-short

pub returns-clause-get_segment_mode : goal.returns-clause-get_segment_mode
returns-clause-get_segment_mode c = get-segment-mode-short

pub returns-clause-copy_cal_page : goal.returns-clause-copy_cal_page
returns-clause-copy_cal_page c = copy-cal-page-short

pub returns-clause-clear_daq_list : goal.returns-clause-clear_daq_list
returns-clause-clear_daq_list c = clear-daq-list-short

pub returns-clause-set_daq_ptr : goal.returns-clause-set_daq_ptr
returns-clause-set_daq_ptr c = set-daq-ptr-short

pub returns-clause-write_daq : goal.returns-clause-write_daq
returns-clause-write_daq c = write-daq-short

pub returns-clause-set_daq_list_mode : goal.returns-clause-set_daq_list_mode
returns-clause-set_daq_list_mode c = set-daq-list-mode-short

pub returns-clause-get_daq_list_mode : goal.returns-clause-get_daq_list_mode
returns-clause-get_daq_list_mode c = get-daq-list-mode-short

pub returns-clause-start_stop_daq_list : goal.returns-clause-start_stop_daq_list
returns-clause-start_stop_daq_list c = start-stop-daq-list-short

pub returns-clause-start_stop_synch : goal.returns-clause-start_stop_synch
returns-clause-start_stop_synch c = start-stop-synch-short

pub returns-clause-get_daq_event_info : goal.returns-clause-get_daq_event_info
returns-clause-get_daq_event_info c = get-daq-event-info-short

pub returns-clause-alloc_daq : goal.returns-clause-alloc_daq
returns-clause-alloc_daq c = alloc-daq-short

pub returns-clause-alloc_odt : goal.returns-clause-alloc_odt
returns-clause-alloc_odt c = alloc-odt-short

pub returns-clause-alloc_odt_entry : goal.returns-clause-alloc_odt_entry
returns-clause-alloc_odt_entry c = alloc-odt-entry-short
