use Rattle.xcp_laws.proofs.ChecksumSums.{sum_of_none, more_add_11, more_add_12, more_add_14, more_add_22, more_add_22_motorola, more_add_24, more_add_24_motorola, more_add_44, more_add_44_motorola}
use Rattle.xcp_laws.proofs.checksums.a_checksum_adds_each_number.Goals as goal

pub returns-clause-none : goal.returns-clause-none
returns-clause-none c = sum_of_none

pub returns-clause-add_11 : goal.returns-clause-add_11
returns-clause-add_11 c = more_add_11

pub returns-clause-add_12 : goal.returns-clause-add_12
returns-clause-add_12 c = more_add_12

pub returns-clause-add_14 : goal.returns-clause-add_14
returns-clause-add_14 c = more_add_14

pub returns-clause-add_22 : goal.returns-clause-add_22
returns-clause-add_22 c = more_add_22

pub returns-clause-add_22_motorola : goal.returns-clause-add_22_motorola
returns-clause-add_22_motorola c = more_add_22_motorola

pub returns-clause-add_24 : goal.returns-clause-add_24
returns-clause-add_24 c = more_add_24

pub returns-clause-add_24_motorola : goal.returns-clause-add_24_motorola
returns-clause-add_24_motorola c = more_add_24_motorola

pub returns-clause-add_44 : goal.returns-clause-add_44
returns-clause-add_44 c = more_add_44

pub returns-clause-add_44_motorola : goal.returns-clause-add_44_motorola
returns-clause-add_44_motorola c = more_add_44_motorola
