use Rattle.xcp_slave.proofs.PageLaws.{store-stands}
use Rattle.xcp_slave.proofs.runs.a_store_request_stands.Goals as goal

pub returns : goal.returns
returns c = store-stands
