use Rattle.xcp_memory.proofs.LayoutLimitLaws.{kept_limits}
use Rattle.xcp_memory.proofs.layout_laws.kept_limits_make_a_layout.Goals as goal

pub returns : goal.returns
returns c = kept_limits
