use Rattle.xcp_locked.proofs.GapLemmas.{no_join, gap_low}
use Rattle.xcp_locked.proofs.laws.a_gap_is_no_join.Goals as goal

pub returns-clause-apart : goal.returns-clause-apart
returns-clause-apart c = no_join

pub returns-clause-within : goal.returns-clause-within
returns-clause-within c = gap_low
