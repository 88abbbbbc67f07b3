use Rattle.xcp_memory.proofs.AreaLaws.{inside_lies, inside_computes}
use Rattle.xcp_memory.proofs.layout_laws.ranges_are_decided.Goals as goal

pub returns : goal.returns
returns c = λ l a n. (inside_lies l a n, inside_computes l a n)
