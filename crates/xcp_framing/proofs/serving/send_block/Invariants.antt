use Rattle.std.proofs.Common.{◌≡◌, ◌≤◌, length}
use Rattle.xcp_packet.specs.PacketTrains.{block_packets}
use Rattle.xcp_framing.specs.FrameOutput.{output}
use Rattle.xcp_framing.proofs.ExchangeLemmas.{SentPart}
use Rattle.xcp_framing.proofs.serving.send_block.Given as goal

abbrev pub invariant-pieces : goal.invariant-pieces
invariant-pieces g l = record {
  part : SentPart (output (g.W.Write.contents l.fn.writer.inner) l.fn.sender) (output (g.W.Write.contents l.writer.inner) l.sender) l.fn.sender.sent l.sender.sent (block_packets l.width l.bytes) (block_packets l.width l.left);
  short : length l.left ≤ 255;
  unfailed : l.writer.failures ≡ l.fn.writer.failures;
}

abbrev pub decreases-pieces : goal.decreases-pieces
decreases-pieces g l = length l.left
