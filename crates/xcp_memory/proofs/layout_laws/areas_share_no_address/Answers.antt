use Rattle.xcp_memory.proofs.AreaLaws.{one_area}
use Rattle.xcp_memory.proofs.layout_laws.areas_share_no_address.Goals as goal

pub returns : goal.returns
returns c = one_area
