use Rattle.xcp_program.proofs.SourceLemmas.{front-taken}
use Rattle.xcp_program.proofs.data_files.read_data.Goals as goal

pub returns-in-Ok-clause-front : goal.returns-in-Ok-clause-front
returns-in-Ok-clause-front g c =
    rw c.of.ensures (front-taken 1048577 _ _ (rw (c.take-front.ensures.limit, c.take-front.ensures.inner, c.new-bytes.ensures.items) at c.in-Ok.ensures.bytes))
