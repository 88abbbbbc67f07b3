use Rattle.xcp_slave.proofs.MemoryLaws.{bits-writes, download-writes, short-writes, max-writes, block-writes}
use Rattle.xcp_slave.proofs.accepting.a_tool_writes_its_bytes.Goals as goal

pub returns-clause-download : goal.returns-clause-download
returns-clause-download c = download-writes

pub returns-clause-short_download : goal.returns-clause-short_download
returns-clause-short_download c = short-writes

pub returns-clause-download_max : goal.returns-clause-download_max
returns-clause-download_max c = max-writes

pub returns-clause-block : goal.returns-clause-block
returns-clause-block c = block-writes

pub returns-clause-bits : goal.returns-clause-bits
returns-clause-bits c = bits-writes
