use Rattle.xcp_laws.proofs.ToldValues.{segment-address, segment-size, segment-pages, freeze-on, freeze-off}
use Rattle.xcp_laws.proofs.asking.a_segment_is_told_as_it_is.Goals as goal

pub returns-clause-address : goal.returns-clause-address
returns-clause-address c = segment-address

pub returns-clause-size : goal.returns-clause-size
returns-clause-size c = segment-size

pub returns-clause-pages : goal.returns-clause-pages
returns-clause-pages c = segment-pages

pub returns-clause-freeze : goal.returns-clause-freeze
returns-clause-freeze c = freeze-on

pub returns-clause-no_freeze : goal.returns-clause-no_freeze
returns-clause-no_freeze c = freeze-off
