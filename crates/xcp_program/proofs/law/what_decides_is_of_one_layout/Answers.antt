use Rattle.xcp_program.proofs.DecidedLemmas.{one_layout, same_bytes_of}
use Rattle.xcp_program.proofs.law.what_decides_is_of_one_layout.Goals as goal

pub returns : goal.returns
returns c = λ l m p q. (one_layout l m p q, same_bytes_of l m)
