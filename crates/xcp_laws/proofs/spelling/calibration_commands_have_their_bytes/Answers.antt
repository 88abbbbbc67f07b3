use Rattle.xcp_laws.proofs.SpeltCommands.{download, download-next, download-max, short-download, modify-bits, set-cal-page, get-cal-page, get-pag-processor-info, get-segment-info, get-page-info, set-segment-mode, get-segment-mode, copy-cal-page}
use Rattle.xcp_laws.proofs.spelling.calibration_commands_have_their_bytes.Goals as goal

pub returns-clause-download : goal.returns-clause-download
returns-clause-download c = download

pub returns-clause-download_next : goal.returns-clause-download_next
returns-clause-download_next c = download-next

pub returns-clause-download_max : goal.returns-clause-download_max
returns-clause-download_max c = download-max

pub returns-clause-short_download : goal.returns-clause-short_download
returns-clause-short_download c = short-download

pub returns-clause-modify_bits : goal.returns-clause-modify_bits
returns-clause-modify_bits c = modify-bits

pub returns-clause-set_cal_page : goal.returns-clause-set_cal_page
returns-clause-set_cal_page c = set-cal-page

pub returns-clause-get_cal_page : goal.returns-clause-get_cal_page
returns-clause-get_cal_page c = get-cal-page

pub returns-clause-get_pag_processor_info : goal.returns-clause-get_pag_processor_info
returns-clause-get_pag_processor_info c = get-pag-processor-info

pub returns-clause-get_segment_info : goal.returns-clause-get_segment_info
returns-clause-get_segment_info c = get-segment-info

pub returns-clause-get_page_info : goal.returns-clause-get_page_info
returns-clause-get_page_info c = get-page-info

pub returns-clause-set_segment_mode : goal.returns-clause-set_segment_mode
returns-clause-set_segment_mode c = set-segment-mode

pub returns-clause-get_segment_mode : goal.returns-clause-get_segment_mode
returns-clause-get_segment_mode c = get-segment-mode

pub returns-clause-copy_cal_page : goal.returns-clause-copy_cal_page
returns-clause-copy_cal_page c = copy-cal-page
