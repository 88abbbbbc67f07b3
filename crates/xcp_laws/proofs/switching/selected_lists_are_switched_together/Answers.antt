use Rattle.xcp_laws.proofs.ListModes.{synch-stops-all, synch-starts, synch-stops, synch-leaves, synch-leaves-too, synch-unselects}
use Rattle.xcp_laws.proofs.switching.selected_lists_are_switched_together.Goals as goal

pub returns-clause-stop_all : goal.returns-clause-stop_all
returns-clause-stop_all c = synch-stops-all

pub returns-clause-start : goal.returns-clause-start
returns-clause-start c = synch-starts

pub returns-clause-stop : goal.returns-clause-stop
returns-clause-stop c = synch-stops

pub returns-clause-others_at_start : goal.returns-clause-others_at_start
returns-clause-others_at_start c = synch-leaves

pub returns-clause-others_at_stop : goal.returns-clause-others_at_stop
returns-clause-others_at_stop c = synch-leaves-too

pub returns-clause-unselected : goal.returns-clause-unselected
returns-clause-unselected c = synch-unselects
