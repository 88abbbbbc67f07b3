use Rattle.xcp_laws.proofs.SpeltCommands.{connect, disconnect, get-status, synch, get-comm-mode-info, get-id, set-request, set-mta, upload, short-upload, build-checksum, get-version}
use Rattle.xcp_laws.proofs.spelling.standard_commands_have_their_bytes.Goals as goal

pub returns-clause-connect : goal.returns-clause-connect
returns-clause-connect c = connect

pub returns-clause-disconnect : goal.returns-clause-disconnect
returns-clause-disconnect c = disconnect

pub returns-clause-get_status : goal.returns-clause-get_status
returns-clause-get_status c = get-status

pub returns-clause-synch : goal.returns-clause-synch
returns-clause-synch c = synch

pub returns-clause-get_comm_mode_info : goal.returns-clause-get_comm_mode_info
returns-clause-get_comm_mode_info c = get-comm-mode-info

pub returns-clause-get_id : goal.returns-clause-get_id
returns-clause-get_id c = get-id

pub returns-clause-set_request : goal.returns-clause-set_request
returns-clause-set_request c = set-request

pub returns-clause-set_mta : goal.returns-clause-set_mta
returns-clause-set_mta c = set-mta

pub returns-clause-upload : goal.returns-clause-upload
returns-clause-upload c = upload

pub returns-clause-short_upload : goal.returns-clause-short_upload
returns-clause-short_upload c = short-upload

pub returns-clause-build_checksum : goal.returns-clause-build_checksum
returns-clause-build_checksum c = build-checksum

pub returns-clause-get_version : goal.returns-clause-get_version
returns-clause-get_version c = get-version
