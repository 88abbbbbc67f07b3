use Rattle.std.proofs.Common.{◌≤◌, length}
use Rattle.xcp_packet.specs.PacketTrains.{block_packets}
use Rattle.xcp_framing.proofs.ExchangeLemmas.{PutPart}
use Rattle.xcp_framing.proofs.gathering.push_block.Given as goal

abbrev pub invariant-pieces : goal.invariant-pieces
invariant-pieces l = record {
  part : PutPart l.fn.batch l.batch l.count (block_packets l.width l.bytes) (block_packets l.width l.left);
  short : length l.left ≤ 255;
}

abbrev pub decreases-pieces : goal.decreases-pieces
decreases-pieces l = length l.left
