use Rattle.xcp_transfer.proofs.MtaAccessLaws.{rows_read, rows_write}
use Rattle.xcp_transfer.proofs.laws.rows_read_and_write.Goals as goal

pub returns-clause-read : goal.returns-clause-read
returns-clause-read c = rows_read c.tool_is_read.ensures

pub returns-clause-write : goal.returns-clause-write
returns-clause-write c = rows_write c.tool_is_written.ensures
