use Rattle.xcp_slave.proofs.BlockDownloadLaws.{block-gathered, block-keeps, block-written, block-all, block-behind}
use Rattle.xcp_slave.proofs.blocks.a_block_is_written_at_its_end.Goals as goal

pub returns-clause-gathered : goal.returns-clause-gathered
returns-clause-gathered c = block-gathered

pub returns-clause-kept : goal.returns-clause-kept
returns-clause-kept c = block-keeps

pub returns-clause-written : goal.returns-clause-written
returns-clause-written c = block-written

pub returns-clause-all : goal.returns-clause-all
returns-clause-all c = block-all

pub returns-clause-behind : goal.returns-clause-behind
returns-clause-behind c = block-behind
