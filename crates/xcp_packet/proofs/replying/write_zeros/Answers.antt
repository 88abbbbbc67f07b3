use Rattle.std.proofs.Common.{◌∙◌, arith}
use Rattle.std.proofs.lemmas.List.{take-replicate}
use Rattle.xcp_packet.proofs.replying.write_zeros.Goals as goal

pub returns : goal.returns
returns c = c.write.ensures.items ∙ take-replicate c.args.n 255 0 (omega arith)
