use Rattle.xcp_laws.proofs.FirstRefusals.{daq-in-sequence, odt-in-sequence, entry-in-sequence}
use Rattle.xcp_laws.proofs.refusing.a_sequence_is_asked_for_first.Goals as goal

pub returns-clause-alloc_daq : goal.returns-clause-alloc_daq
returns-clause-alloc_daq c = daq-in-sequence

pub returns-clause-alloc_odt : goal.returns-clause-alloc_odt
returns-clause-alloc_odt c = odt-in-sequence

pub returns-clause-alloc_odt_entry : goal.returns-clause-alloc_odt_entry
returns-clause-alloc_odt_entry c = entry-in-sequence
