use Rattle.std.proofs.Common.{◌≡◌, ◌≤◌, ◌+◌, ◌*◌, All, length}
use Rattle.xcp_framing.specs.FrameOutput.{output}
use Rattle.xcp_framing.specs.Serve.{GavePacket}
use Rattle.xcp_framing.specs.private.GrowingOutput.{OutputGrows, fine}
use Rattle.xcp_framing.proofs.serving.drain.Given as goal

abbrev pub invariant-loop-drain : goal.invariant-loop-drain
invariant-loop-drain g l = record {
  drains : OutputGrows fine (λ xs. All GavePacket xs × (length xs ≡ l._drain)) (g.S.Station.exchanges l.fn.station) (g.S.Station.exchanges l.station) (output (g.W.Write.contents l.fn.writer.inner) l.fn.sender) (output (g.W.Write.contents l.writer.inner) l.sender) l.fn.sender.sent l.sender.sent;
  bound : l.sender.sent ≤ l.fn.sender.sent + 37 * l._drain;
  unfailed : l.writer.failures ≡ l.fn.writer.failures;
}
