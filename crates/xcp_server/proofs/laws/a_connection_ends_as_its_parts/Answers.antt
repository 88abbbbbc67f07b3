use Rattle.xcp_server.proofs.ConnectionEndLaws.{ends_well, fault_is_a_parts, reading_first}
use Rattle.xcp_server.proofs.laws.a_connection_ends_as_its_parts.Goals as goal

pub returns-clause-well : goal.returns-clause-well
returns-clause-well c = ends_well

pub returns-clause-fault : goal.returns-clause-fault
returns-clause-fault c = fault_is_a_parts

pub returns-clause-reading : goal.returns-clause-reading
returns-clause-reading c = reading_first
