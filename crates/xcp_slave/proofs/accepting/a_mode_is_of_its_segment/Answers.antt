use Rattle.xcp_slave.proofs.PagePartLaws.{mode-bytes, mode-others, mode-set}
use Rattle.xcp_slave.proofs.accepting.a_mode_is_of_its_segment.Goals as goal

pub returns-clause-freeze : goal.returns-clause-freeze
returns-clause-freeze c = mode-set

pub returns-clause-others : goal.returns-clause-others
returns-clause-others c = mode-others

pub returns-clause-bytes : goal.returns-clause-bytes
returns-clause-bytes c = mode-bytes
