use Rattle.xcp_memory.proofs.ReadLaws as reading
use Rattle.xcp_memory.proofs.access_laws.tool_is_read.Goals as goal

pub returns : goal.returns
returns c = reading.tool_is_read
