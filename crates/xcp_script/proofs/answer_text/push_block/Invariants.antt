use Rattle.std.proofs.Common.{◌≡◌, ◌≤◌, ◌++◌, length}
use Rattle.xcp_packet.specs.PacketTrains.{block_packets}
use Rattle.xcp_script.specs.AnswerText.{packets_text}
use Rattle.xcp_script.proofs.answer_text.push_block.Given as goal

abbrev pub invariant-pieces : goal.invariant-pieces
invariant-pieces l = record {
  text : l.texts.items ++ packets_text (block_packets l.width l.left) ≡ l.fn.texts.items ++ packets_text (block_packets l.width l.bytes);
  short : length l.left ≤ 255;
}

abbrev pub decreases-pieces : goal.decreases-pieces
decreases-pieces l = length l.left
