use Rattle.std.proofs.Common.{ℕ, ◌≢◌, [], sym, ◌∙◌}
use Rattle.arrayvec.specs.ArrayVec.{ArrayVec}
use Rattle.xcp_packet.specs.BlockPacketLemmas.{block_begins}
use Rattle.xcp_slave.specs.AnswerInBytes.{answer_in}
use Rattle.xcp_slave.specs.declared.Outcome.TheVariants as outcomes
use Rattle.xcp_slave.specs.declared.Cut.{Cut}
use Rattle.xcp_slave.specs.declared.Cut.TheVariants as cuts
use Rattle.xcp_framing.specs.Serve.{packets_in_answer}
use Rattle.xcp_framing.proofs.ExchangeLemmas.{cons≢nil}
use Rattle.xcp_framing.proofs.serving.has_packets.Goals as goal

-- however it is cut, an answer with packets has one
some : (cut : Cut) (packet : ArrayVec ℕ) → packets_in_answer (answer_in (outcomes.Packets cut) packet) ≢ []
some cuts.Whole packet = λ e. cons≢nil e
some (cuts.Block width) packet = λ e. let b = block_begins width packet.items in cons≢nil (sym b.2 ∙ e)

pub returns-in-Packets-clause-some : goal.returns-in-Packets-clause-some
returns-in-Packets-clause-some c = λ packet t e. some _ packet (rw c.in-Packets.is at e)
