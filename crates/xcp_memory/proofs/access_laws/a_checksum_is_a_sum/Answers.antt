use Rattle.xcp_memory.proofs.ChecksumLaws.{checksum-sums, checksum-bytes, number-at, length-numbers}
use Rattle.xcp_memory.proofs.access_laws.a_checksum_is_a_sum.Goals as goal

pub returns-clause-read : goal.returns-clause-read
returns-clause-read c = checksum-sums

pub returns-clause-bytes : goal.returns-clause-bytes
returns-clause-bytes c = checksum-bytes

pub returns-clause-each : goal.returns-clause-each
returns-clause-each c = number-at

pub returns-clause-all : goal.returns-clause-all
returns-clause-all c = length-numbers
