use Rattle.xcp_config.proofs.NoFileLemmas.{same_fault, same_layout}
use Rattle.xcp_config.proofs.law.files_are_of_those_that_name_them.Goals as goal

pub returns : goal.returns
returns c = λ files t h. (same_fault files t h, same_layout files t h)
