use Rattle.xcp_laws.proofs.TransferRanges.{long-sum, sum-large, sum-papers}
use Rattle.xcp_laws.proofs.checksums.a_long_sum_is_told_the_greatest.Goals as goal

pub returns-clause-longer : goal.returns-clause-longer
returns-clause-longer c = long-sum

pub returns-clause-large : goal.returns-clause-large
returns-clause-large c = sum-large

pub returns-clause-papers : goal.returns-clause-papers
returns-clause-papers c = sum-papers
