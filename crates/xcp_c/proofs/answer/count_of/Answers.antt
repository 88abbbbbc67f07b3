use Rattle.std.proofs.Common.{sym}
use Rattle.xcp_packet.specs.BlockPacketLemmas.{block_count}
use Rattle.xcp_c.proofs.answer.count_of.Goals as goal

pub returns : goal.returns
returns c =
    rw (c.saturating_sub.ensures, c.size.ensures.value) (sym (block_count c.args.width c.args.bytes.now))
