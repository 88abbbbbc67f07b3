use Rattle.xcp_program.proofs.StoredSizeLemmas.{each_file}
use Rattle.xcp_program.proofs.law.what_a_layout_stores_is_read.Goals as goal

pub returns : goal.returns
returns c = each_file
