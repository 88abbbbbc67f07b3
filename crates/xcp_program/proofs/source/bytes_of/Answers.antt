use Rattle.std.proofs.Common.{◌+◌, arith}
use Rattle.xcp_program.proofs.SourceLemmas.{front-whole}
use Rattle.xcp_program.proofs.source.bytes_of.Goals as goal

pub returns-in-Ok-clause-whole : goal.returns-in-Ok-clause-whole
returns-in-Ok-clause-whole g c = front-whole (c.args.most + 1) _ _ (rw (c.take-front.ensures.limit, c.take-front.ensures.inner, c.new-bytes.ensures.items) at c.in-Ok.ensures.bytes) (omega (arith, c.read_to_end.new.buf.ok.0))
