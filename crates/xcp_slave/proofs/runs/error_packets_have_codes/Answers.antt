use Rattle.xcp_slave.proofs.ErrorLaws.{command-codes, error-codes}
use Rattle.xcp_slave.proofs.PacketLengthLaws.{answers-shape}
use Rattle.xcp_slave.proofs.runs.error_packets_have_codes.Goals as goal

pub returns-clause-all : goal.returns-clause-all
returns-clause-all c = error-codes

pub returns-clause-blocks : goal.returns-clause-blocks
returns-clause-blocks c = answers-shape

pub returns-clause-of_commands : goal.returns-clause-of_commands
returns-clause-of_commands c = command-codes
