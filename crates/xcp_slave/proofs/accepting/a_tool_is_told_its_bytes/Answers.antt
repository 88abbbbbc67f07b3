use Rattle.xcp_slave.proofs.AcceptedCommandLaws.{upload-text-reads, upload-reads, short-upload-reads, checksum-sums}
use Rattle.xcp_slave.proofs.accepting.a_tool_is_told_its_bytes.Goals as goal

pub returns-clause-upload : goal.returns-clause-upload
returns-clause-upload c = upload-reads

pub returns-clause-short_upload : goal.returns-clause-short_upload
returns-clause-short_upload c = short-upload-reads

pub returns-clause-checksum : goal.returns-clause-checksum
returns-clause-checksum c = checksum-sums

pub returns-clause-text : goal.returns-clause-text
returns-clause-text c = upload-text-reads
