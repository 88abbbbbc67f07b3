use Rattle.xcp_transfer.proofs.BlockLaws.{written_whole, written_last}
use Rattle.xcp_transfer.proofs.laws.block_is_written_whole.Goals as goal

pub returns-clause-whole : goal.returns-clause-whole
returns-clause-whole c = written_whole c.tool_is_written.ensures

pub returns-clause-last : goal.returns-clause-last
returns-clause-last c = written_last
