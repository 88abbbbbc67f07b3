use Rattle.xcp_program.proofs.StoredPagesLemmas.{folder_of_split}
use Rattle.xcp_program.proofs.stored_pages.folder_of.Goals as goal

pub returns-in-Some : goal.returns-in-Some
returns-in-Some c = rw c.folder_before.ensures (folder_of_split c.args.path.now c.in-Some.front.now c.in-Some.field-0-1.now c.in-Some.ensures.cases)
