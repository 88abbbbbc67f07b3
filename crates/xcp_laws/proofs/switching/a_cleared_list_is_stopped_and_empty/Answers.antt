use Rattle.xcp_laws.proofs.ListModes.{clear-stops, clear-unselects, clear-empties, clear-keeps-odts, clear-keeps-entries, clear-keeps, clear-others}
use Rattle.xcp_laws.proofs.switching.a_cleared_list_is_stopped_and_empty.Goals as goal

pub returns-clause-stopped : goal.returns-clause-stopped
returns-clause-stopped c = clear-stops

pub returns-clause-unselected : goal.returns-clause-unselected
returns-clause-unselected c = clear-unselects

pub returns-clause-unwritten : goal.returns-clause-unwritten
returns-clause-unwritten c = clear-empties

pub returns-clause-odts : goal.returns-clause-odts
returns-clause-odts c = clear-keeps-odts

pub returns-clause-entries : goal.returns-clause-entries
returns-clause-entries c = clear-keeps-entries

pub returns-clause-kept : goal.returns-clause-kept
returns-clause-kept c = clear-keeps

pub returns-clause-others : goal.returns-clause-others
returns-clause-others c = clear-others
