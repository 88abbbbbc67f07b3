use Rattle.std.proofs.Common.{◌≡◌, ◌≤◌, ◌+◌, ◌*◌, length}
use Rattle.xcp_framing.specs.CountedCalls.{EachRead, stream_place}
use Rattle.xcp_framing.specs.Serve.{IsReadOf}
use Rattle.xcp_framing.specs.private.MostPackets.{most_packets}
use Rattle.xcp_framing.proofs.AnsweredStreamLemmas.{Along}
use Rattle.xcp_framing.proofs.passage.answer_stream.Given as goal

abbrev pub invariant-loop-turn : goal.invariant-loop-turn
invariant-loop-turn g l = record {
  along : Along g.A.Answerer.answers l.max_cto (stream_place g.R.Read.remaining l.fn.reader) (stream_place g.R.Read.remaining l.reader) l.framer.held (record { station = l.fn.station; state = l.fn.state; out = l.fn.out }) (record { station = l.station; state = l.state; out = l.out }) l.count;
  rests : g.A.Answerer.rests l.state;
  size : length l.buffer ≡ length l.fn.buffer;
  limit : l.framer.max_cto ≡ l.max_cto;
  bound : g.A.Answerer.sent_of l.state ≤ most_packets * 4096 * l._turn;
  few : l.count ≤ 4096 * l._turn;
  calls : l.reader.calls ≡ l.fn.reader.calls + l._turn;
  failures : l.reader.failures ≡ l.fn.reader.failures;
  reads : EachRead (IsReadOf (length l.fn.buffer)) l.fn.reader l.reader;
}
