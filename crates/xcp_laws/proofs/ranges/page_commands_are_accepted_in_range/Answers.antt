use Rattle.xcp_laws.proofs.PageRanges.{set-cal-page, get-cal-page, get-segment-info, get-page-info, set-segment-mode, get-segment-mode, copy-cal-page, set-request}
use Rattle.xcp_laws.proofs.ranges.page_commands_are_accepted_in_range.Goals as goal

pub returns-clause-set_cal_page : goal.returns-clause-set_cal_page
returns-clause-set_cal_page c = set-cal-page

pub returns-clause-get_cal_page : goal.returns-clause-get_cal_page
returns-clause-get_cal_page c = get-cal-page

pub returns-clause-get_segment_info : goal.returns-clause-get_segment_info
returns-clause-get_segment_info c = get-segment-info

pub returns-clause-get_page_info : goal.returns-clause-get_page_info
returns-clause-get_page_info c = get-page-info

pub returns-clause-set_segment_mode : goal.returns-clause-set_segment_mode
returns-clause-set_segment_mode c = set-segment-mode

pub returns-clause-get_segment_mode : goal.returns-clause-get_segment_mode
returns-clause-get_segment_mode c = get-segment-mode

pub returns-clause-copy_cal_page : goal.returns-clause-copy_cal_page
returns-clause-copy_cal_page c = copy-cal-page

pub returns-clause-set_request : goal.returns-clause-set_request
returns-clause-set_request c = set-request
