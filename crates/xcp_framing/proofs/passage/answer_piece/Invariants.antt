use Rattle.std.proofs.Common.{◌≡◌, ◌≤◌, ◌+◌, ◌*◌, ◌-◌, length}
use Rattle.xcp_framing.specs.private.MostPackets.{most_packets}
use Rattle.xcp_framing.proofs.AnsweredStreamLemmas.{Uses}
use Rattle.xcp_framing.proofs.passage.answer_piece.Given as goal

abbrev pub invariant-loop-length : goal.invariant-loop-length
invariant-loop-length g l = record {
  uses : Uses g.A.Answerer.answers l.fn.framer.max_cto l.fn.framer.held l.piece l.framer.held l.used (record { station = l.fn.station; state = l.fn.state; out = l.fn.out }) (record { station = l.station; state = l.state; out = l.out }) l.fn.count l.count;
  within : l.used ≤ length l.piece;
  bound : g.A.Answerer.sent_of l.state ≤ g.A.Answerer.sent_of l.fn.state + most_packets * l.used;
  few : l.count ≤ l.fn.count + l.used;
  kept : l.framer.max_cto ≡ l.fn.framer.max_cto;
}

abbrev pub decreases-loop-length : goal.decreases-loop-length
decreases-loop-length g l = length l.piece - l.used
