-- A command that is executed.
use Rattle.std.proofs.Common.{◌≡◌, ◌∙◌, ℕ, List, refl, ap, subst, Option, Some, None, Result, Ok, Err}
use Rattle.xcp_packet.specs.declared.Command.{Command}
use Rattle.xcp_packet.specs.declared.Command.TheVariants as commands
use Rattle.xcp_packet.specs.declared.Reply.{Reply}
use Rattle.xcp_packet.specs.declared.Sent.{Sent}
use Rattle.xcp_packet.specs.declared.Sent.TheVariants as sents
use Rattle.xcp_packet.specs.declared.CommandError.{CommandError}
use Rattle.xcp_packet.specs.declared.CommandError.TheVariants as faults
use Rattle.xcp_transfer.specs.TransferValue.{response_room}
use Rattle.xcp_packet.specs.ReplyInBytes.{fault_reply, sent_packets, reply_packets}
use Rattle.xcp_packet.specs.Rows.{Tells}
use Rattle.xcp_memory.specs.Layout.{LayoutValue}
use Rattle.xcp_slave.specs.Outcomes.{Answer}
use Rattle.xcp_slave.specs.declared.outcome.Outcome.TheVariants as answers
use Rattle.xcp_slave.specs.SlaveValue.{SlaveValue, layout_of, noblock}
use Rattle.xcp_slave.specs.Rows.{row}
use Rattle.xcp_slave.specs.private.TellsRow.{TellsRow}
use Rattle.xcp_slave.specs.Step.{Executes, answer_of, found_by}
use Rattle.xcp_slave.specs.private.AnswerSaid.{answer_said}
use Rattle.xcp_slave.proofs.LayoutKeptLemmas.{found_by-layout}

-- whatever the command finds, a refusal leaves the slave without its block
noblock-found_by : (c : Command) (v : SlaveValue) → noblock (found_by c v) ≡ noblock v
noblock-found_by (commands.DownloadNext remaining bytes) v = refl
noblock-found_by _ v = refl

-- these packets, if there are any
abbrev packets_or : Option (List (List ℕ)) → Answer
packets_or None = answers.Silent
packets_or (Some packets) = answers.Packets packets

-- what was sent are the reply's packets
said_sent : (l : LayoutValue) (sent : Sent) (bytes : List ℕ) (reply : Option Reply) → sent_packets sent bytes ≡ reply_packets l.order (response_room l) reply → answer_said l.order (Ok sent) bytes ≡ answer_of l reply
said_sent l sents.Lent bytes (Some reply) h = ap packets_or h
said_sent l sents.Lent bytes None h = absurd (cc)
said_sent l (sents.Block width) bytes (Some reply) h = ap packets_or h
said_sent l (sents.Block width) bytes None h = absurd (cc)
said_sent l sents.Nothing bytes (Some reply) h = absurd (cc)
said_sent l sents.Nothing bytes None h = refl

-- a refusal is its error packet alone
pub said_fault : (l : LayoutValue) (fault : CommandError) (bytes : List ℕ) → answer_said l.order (Err fault) bytes ≡ answer_of l (Some (fault_reply fault))
said_fault l (faults.Code code) bytes = refl
said_fault l (faults.Count code count) bytes = refl
said_fault l (faults.BlockSize code size) bytes = refl

-- a command is executed where its row is met at the slave that it finds and the row's outcome is answered
pub obeyed : (c : Command) (v u w : SlaveValue) (a : Answer) (r : Result Sent CommandError) (bytes : List ℕ) → u ≡ found_by c v → TellsRow c u r bytes w → a ≡ answer_said (layout_of v).order r bytes → Executes c v a w
unfolding TellsRow
obeyed c v u w a (Ok sent) bytes e m s =
    let k = subst (λ (x : SlaveValue). Tells (layout_of x).order (response_room (layout_of x)) (row c x) (noblock x) (Ok sent) bytes w) e m in
    let reply = (row c (found_by c v)).reply in
    let h = subst (λ (l : LayoutValue). sent_packets sent bytes ≡ reply_packets l.order (response_room l) reply) (found_by-layout c v) k.1 in
    (Ok reply, (k.0, refl, k.2), s ∙ said_sent (layout_of v) sent bytes reply h)
obeyed c v u w a (Err fault) bytes e m s =
    let k = subst (λ (x : SlaveValue). Tells (layout_of x).order (response_room (layout_of x)) (row c x) (noblock x) (Err fault) bytes w) e m in
    (Err (fault_reply fault), (k.0, k.1 ∙ noblock-found_by c v), s ∙ said_fault (layout_of v) fault bytes)
