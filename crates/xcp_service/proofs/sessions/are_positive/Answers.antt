use Rattle.xcp_service.proofs.SessionLemmas.{block_told}
use Rattle.xcp_service.proofs.sessions.are_positive.Goals as goal

pub returns-in-Block : goal.returns-in-Block
returns-in-Block c = block_told c.args.cut _ c.args.packet.now c.in-Block.is
