use Rattle.xcp_memory.proofs.AreaLaws.{located}
use Rattle.xcp_memory.proofs.layout.Layout.segment_of.Goals as goal

pub returns-clause-located : goal.returns-clause-located
returns-clause-located c = located _ _ _ _ c.first_segment.ensures
