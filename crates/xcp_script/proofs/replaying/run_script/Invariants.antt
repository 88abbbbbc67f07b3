use Rattle.std.proofs.Common.{◌≡◌, ◌≤◌, ◌+◌, ◌*◌, []}
use Rattle.std.specs.Io.KnownBytes.{Appends}
use Rattle.xcp_slave.specs.Run.{requests_of}
use Rattle.xcp_slave.specs.SlaveValue.{layout_of}
use Rattle.xcp_framing.specs.CountedCalls.{EachRead}
use Rattle.xcp_script.specs.Replay.{IsTurn}
use Rattle.xcp_script.specs.AnswerText.{answers_text}
use Rattle.xcp_script.proofs.ScriptProgressLemmas.{Midway}
use Rattle.xcp_script.proofs.replaying.run_script.Given as goal

abbrev pub invariant-loop : goal.invariant-loop
invariant-loop g l = record {
  midway : Midway l.max_cto (g.R.Read.remaining l.fn.reader.inner) (g.R.Read.remaining l.reader.inner) l.pending.liner.held.items l.pending.count (requests_of l.desk.exchanges);
  written : Appends (g.W.Write.contents l.fn.writer.inner) (g.W.Write.contents l.writer.inner) (answers_text l.desk.exchanges);
  none_left : l.texts.items ≡ [];
  layout : layout_of l.desk.slave ≡ layout_of l.fn.desk.slave;
  limit : l.max_cto ≡ (layout_of l.fn.desk.slave).max_cto;
  write_unfailed : l.writer.failures ≡ l.fn.writer.failures;
  calls : l.reader.calls ≡ l.fn.reader.calls + l.counter;
  read_unfailed : l.reader.failures ≡ l.fn.reader.failures;
  counted : l.pending.count ≤ 16384 * l.counter;
  reads : EachRead IsTurn l.fn.reader l.reader;
}
