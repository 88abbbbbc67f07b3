use Rattle.std.proofs.Common.{rules}
use Rattle.xcp_slave.proofs.slave.Slave.execute.Goals as goal

-- SHORT_UPLOAD
pub returns-else-bytes-lt8-2 : goal.returns-else-bytes-lt8-2
returns-else-bytes-lt8-2 c = search rules

-- SHORT_DOWNLOAD
pub returns-else-bytes-lt8-4 : goal.returns-else-bytes-lt8-4
returns-else-bytes-lt8-4 c = search rules

-- WRITE_DAQ
pub returns-else-bytes-lt8-5 : goal.returns-else-bytes-lt8-5
returns-else-bytes-lt8-5 c = search rules
