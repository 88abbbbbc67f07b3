use Rattle.xcp_laws.proofs.Allocations.{odt-count, odts-kept, odts-new, odt-list, odt-others, odt-rest, entry-count, entries-kept, entries-new, entry-odts, entry-list, entry-others, entry-rest}
use Rattle.xcp_laws.proofs.allocating.new_odts_and_entries_come_behind.Goals as goal

pub returns-clause-odt_count : goal.returns-clause-odt_count
returns-clause-odt_count c = odt-count

pub returns-clause-odts_kept : goal.returns-clause-odts_kept
returns-clause-odts_kept c = odts-kept

pub returns-clause-odts_new : goal.returns-clause-odts_new
returns-clause-odts_new c = odts-new

pub returns-clause-odt_list : goal.returns-clause-odt_list
returns-clause-odt_list c = odt-list

pub returns-clause-odt_others : goal.returns-clause-odt_others
returns-clause-odt_others c = odt-others

pub returns-clause-odt_rest : goal.returns-clause-odt_rest
returns-clause-odt_rest c = odt-rest

pub returns-clause-entry_count : goal.returns-clause-entry_count
returns-clause-entry_count c = entry-count

pub returns-clause-entries_kept : goal.returns-clause-entries_kept
returns-clause-entries_kept c = entries-kept

pub returns-clause-entries_new : goal.returns-clause-entries_new
returns-clause-entries_new c = entries-new

pub returns-clause-entry_odts : goal.returns-clause-entry_odts
returns-clause-entry_odts c = entry-odts

pub returns-clause-entry_list : goal.returns-clause-entry_list
returns-clause-entry_list c = entry-list

pub returns-clause-entry_others : goal.returns-clause-entry_others
returns-clause-entry_others c = entry-others

pub returns-clause-entry_rest : goal.returns-clause-entry_rest
returns-clause-entry_rest c = entry-rest
