use Rattle.std.proofs.Common.{arith, length-drop}
use Rattle.std.proofs.lemmas.List.{length-take-le}
use Rattle.xcp_daq.proofs.OdtLemmas.{reads, parts-drop, part_is, cut_short}
use Rattle.xcp_daq.proofs.odts.Odts.list.Goals as goal

pub returns-clause-cut : goal.returns-clause-cut
returns-clause-cut c = grind (arith, reads, length-drop, cut_short)

pub returns-clause-count : goal.returns-clause-count
returns-clause-count c = grind (arith, reads, length-drop, length-take-le)

pub returns-clause-odts : goal.returns-clause-odts
returns-clause-odts c = grind (arith, reads, parts-drop, part_is)
