use Rattle.xcp_slave.proofs.MemoryLaws.{block-done, whole-done}
use Rattle.xcp_slave.proofs.PageLaws.{block-writable, gives-up}
use Rattle.xcp_slave.proofs.runs.a_block_may_be_written.Goals as goal

pub returns-clause-range : goal.returns-clause-range
returns-clause-range c = block-writable

pub returns-clause-given_up : goal.returns-clause-given_up
returns-clause-given_up c = gives-up

pub returns-clause-whole : goal.returns-clause-whole
returns-clause-whole c = whole-done

pub returns-clause-last : goal.returns-clause-last
returns-clause-last c = block-done
