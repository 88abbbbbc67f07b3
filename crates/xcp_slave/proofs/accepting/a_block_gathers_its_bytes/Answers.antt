use Rattle.xcp_slave.proofs.BlockLaws.{block-begins, block-goes-on}
use Rattle.xcp_slave.proofs.accepting.a_block_gathers_its_bytes.Goals as goal

pub returns-clause-begin : goal.returns-clause-begin
returns-clause-begin c = block-begins

pub returns-clause-next : goal.returns-clause-next
returns-clause-next c = block-goes-on
