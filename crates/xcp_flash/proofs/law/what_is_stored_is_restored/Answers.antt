use Rattle.xcp_flash.proofs.LayoutLemmas.{again, each_segment, restored, sized}
use Rattle.xcp_flash.proofs.law.what_is_stored_is_restored.Goals as goal

pub returns-clause-sized : goal.returns-clause-sized
returns-clause-sized c = sized

pub returns-clause-each : goal.returns-clause-each
returns-clause-each c = each_segment

pub returns-clause-restored : goal.returns-clause-restored
returns-clause-restored c = restored

pub returns-clause-again : goal.returns-clause-again
returns-clause-again c = again
