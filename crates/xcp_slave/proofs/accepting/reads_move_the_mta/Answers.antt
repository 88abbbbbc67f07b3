use Rattle.xcp_slave.proofs.AcceptedCommandLaws.{upload-mta, upload-text, short-upload-mta, checksum-mta}
use Rattle.xcp_slave.proofs.accepting.reads_move_the_mta.Goals as goal

pub returns-clause-upload : goal.returns-clause-upload
returns-clause-upload c = upload-mta

pub returns-clause-text : goal.returns-clause-text
returns-clause-text c = upload-text

pub returns-clause-short_upload : goal.returns-clause-short_upload
returns-clause-short_upload c = short-upload-mta

pub returns-clause-checksum : goal.returns-clause-checksum
returns-clause-checksum c = checksum-mta
