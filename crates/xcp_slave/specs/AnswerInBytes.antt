-- What is told beside a packet that was lent, as an answer.
use Rattle.std.specs.Prelude.{ℕ, [], ◌∷◌}
use Rattle.arrayvec.specs.ArrayVec.{ArrayVec}
use Rattle.xcp_packet.specs.PacketTrains.{block_packets}
use Rattle.xcp_slave.specs.Outcomes.{Answer, Told}
use Rattle.xcp_slave.specs.declared.outcome.Outcome.TheVariants as outcomes
use Rattle.xcp_slave.specs.declared.outcome.Cut.TheVariants as cuts

-- the answer, where this is the packet that was lent
abbrev pub answer_in : Told → ArrayVec ℕ → Answer
answer_in outcomes.Silent packet = outcomes.Silent
answer_in (outcomes.Packets cuts.Whole) packet = outcomes.Packets (packet.items ∷ [])
answer_in (outcomes.Packets (cuts.Block width)) packet = outcomes.Packets (block_packets width packet.items)
answer_in (outcomes.Sampled n) packet = outcomes.Sampled n
answer_in outcomes.Overrun packet = outcomes.Overrun
answer_in outcomes.NoChannel packet = outcomes.NoChannel
answer_in outcomes.BadSignals packet = outcomes.BadSignals
answer_in outcomes.Nothing packet = outcomes.Nothing
answer_in (outcomes.Stored n) packet = outcomes.Stored n
answer_in outcomes.NoStore packet = outcomes.NoStore
answer_in outcomes.Later packet = outcomes.Later
