use Rattle.xcp_slave.proofs.UploadLaws.{upload-answered, upload-packets, upload-text-packets}
use Rattle.xcp_slave.proofs.accepting.an_upload_is_cut_into_packets.Goals as goal

pub returns-clause-upload : goal.returns-clause-upload
returns-clause-upload c = upload-packets

pub returns-clause-text : goal.returns-clause-text
returns-clause-text c = upload-text-packets

pub returns-clause-accepted : goal.returns-clause-accepted
returns-clause-accepted c = upload-answered
