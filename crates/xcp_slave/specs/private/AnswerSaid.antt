-- The answer that a command's outcome is.
use Rattle.std.specs.Prelude.{ℕ, List, [], ◌∷◌, Result, Ok, Err}
use Rattle.xcp_packet.specs.declared.Order.{Order}
use Rattle.xcp_packet.specs.declared.Sent.{Sent}
use Rattle.xcp_packet.specs.declared.Sent.TheVariants as sents
use Rattle.xcp_packet.specs.declared.CommandError.{CommandError}
use Rattle.xcp_packet.specs.ReplyPacket.{layout}
use Rattle.xcp_packet.specs.PacketTrains.{block_packets}
use Rattle.xcp_packet.specs.ReplyInBytes.{fault_reply}
use Rattle.xcp_slave.specs.Outcomes.{Answer}
use Rattle.xcp_slave.specs.declared.outcome.Outcome.TheVariants as answers

-- the answer that a command's outcome is, where the lent packet has these bytes
abbrev pub answer_said : Order → Result Sent CommandError → List ℕ → Answer
answer_said order (Ok sents.Lent) bytes = answers.Packets (bytes ∷ [])
answer_said order (Ok (sents.Block width)) bytes = answers.Packets (block_packets width bytes)
answer_said order (Ok sents.Nothing) bytes = answers.Silent
answer_said order (Err fault) bytes = answers.Packets (layout order (fault_reply fault) ∷ [])
