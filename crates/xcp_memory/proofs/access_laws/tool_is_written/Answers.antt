use Rattle.xcp_memory.proofs.WriteLaws as writing
use Rattle.xcp_memory.proofs.access_laws.tool_is_written.Goals as goal

pub returns : goal.returns
returns c = writing.tool_is_written
