use Rattle.xcp_slave.proofs.PageLaws.{copy-target, copy-content, copy-others, copy-sides}
use Rattle.xcp_slave.proofs.accepting.a_copy_spares_the_reference_page.Goals as goal

pub returns-clause-target : goal.returns-clause-target
returns-clause-target c = copy-target

pub returns-clause-content : goal.returns-clause-content
returns-clause-content c = copy-content

pub returns-clause-others : goal.returns-clause-others
returns-clause-others c = copy-others

pub returns-clause-sides : goal.returns-clause-sides
returns-clause-sides c = copy-sides
