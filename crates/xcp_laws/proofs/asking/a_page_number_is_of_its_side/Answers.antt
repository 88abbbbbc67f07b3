use Rattle.xcp_laws.proofs.ToldValues.{page-of-controller, page-of-tool}
use Rattle.xcp_laws.proofs.asking.a_page_number_is_of_its_side.Goals as goal

pub returns-clause-controller : goal.returns-clause-controller
returns-clause-controller c = page-of-controller

pub returns-clause-tool : goal.returns-clause-tool
returns-clause-tool c = page-of-tool
