use Rattle.xcp_daq.proofs.daq.Daq.behind.Goals as goal

pub entries_of-requires-clause-list : goal.entries_of-requires-clause-list
entries_of-requires-clause-list c = c.requires.list

pub entries_of-requires-clause-odt : goal.entries_of-requires-clause-odt
entries_of-requires-clause-odt c = c.requires.odt
