-- What is known of a command that is accepted.
use Rattle.std.proofs.Common.{◌≡◌, arith, nat_le, take, length, ◌≤◌, ℕ, ◌+◌, ◌-◌, Bool, true, List, [], ◌∷◌, drop, Option, Some, None, Result, Ok, Err, ap, sym, ◌∙◌, refl, subst, nat_lt}
use Rattle.std.specs.Prelude.{◌==◌, not, ◌||◌, ◌%◌}
use Rattle.xcp_packet.proofs.DecodingLaws.{decodes_once}
use Rattle.xcp_packet.specs.ReplyPacket.{layout}
use Rattle.xcp_packet.specs.ByteOrder.{double_bytes}
use Rattle.xcp_packet.specs.declared.Command.{Command}
use Rattle.xcp_packet.specs.declared.Command.TheVariants as commands
use Rattle.xcp_packet.specs.declared.Refuse.{Refuse}
use Rattle.xcp_packet.specs.declared.Reply.{Reply}
use Rattle.xcp_packet.specs.declared.Reply.TheVariants as replies
use Rattle.xcp_packet.specs.declared.Code.TheVariants.{OutOfRange, AccessDenied}
use Rattle.xcp_memory.specs.Checksum.{checksum_number}
use Rattle.xcp_memory.specs.declared.ChecksumKind.{ChecksumKind}
use Rattle.xcp_memory.specs.Checksum.{unit, summed, sum_refusal, checksum_refusal}
use Rattle.xcp_memory.specs.Memory.{Tool, Reads}
use Rattle.xcp_memory.specs.Pages.{PagesValue}
use Rattle.xcp_memory.specs.ComputedAccess.{tool_bytes, lies_inside}
use Rattle.xcp_memory.proofs.ReadLaws.{tool_is_read}
use Rattle.xcp_transfer.specs.declared.mta.Mta.{Mta}
use Rattle.xcp_transfer.specs.declared.mta.Mta.TheVariants.{Nowhere, Memory, Text}
use Rattle.xcp_transfer.specs.declared.mta.TextId.{TextId}
use Rattle.xcp_transfer.specs.declared.mta.TextId.TheVariants.{Id, Name}
use Rattle.xcp_transfer.specs.TransferValue.{text_of}
use Rattle.std.proofs.lemmas.Bool.Decides.{nat_tests}
use Rattle.xcp_transfer.specs.MtaAccess.{is_readable, sum_refusal_at, sum_at, moved, bytes_at}
use Rattle.xcp_transfer.specs.Uploads.{greatest_sum}
use Rattle.xcp_packet.specs.Rows.{Meets, first_holding, refused}
use Rattle.xcp_slave.specs.declared.request.Request.TheVariants as requests
use Rattle.xcp_slave.specs.Outcomes.{Answer}
use Rattle.xcp_slave.specs.declared.outcome.Outcome.TheVariants as answers
use Rattle.xcp_slave.specs.SlaveValue.{SlaveValue, layout_of, noblock}
use Rattle.xcp_slave.specs.Rows.{row}
use Rattle.xcp_slave.specs.Step.{Answers, Heeds, answer_of, sent_reply, found_by, is_connect}
use Rattle.xcp_slave.specs.SlaveInvariant.{IsSlave}
use Rattle.xcp_slave.specs.AcceptedCommands.{Accepts}
use Rattle.xcp_slave.proofs.StepLaws.{either}
use Rattle.xcp_slave.proofs.RefusalCodeLemmas.{refusal-begins}
use Rattle.xcp_slave.proofs.RefusalLaws.{ff-fe, packets_told}
use Rattle.xcp_packet.specs.PacketTrains.{block_packets}
use Rattle.xcp_packet.specs.BlockPacketLemmas.{block_begins, block_joined}
use Rattle.xcp_packet.specs.ReplyInBytes.{packets_of}
use Rattle.xcp_packet.proofs.ReplyPacketLaws.{error_packet, first_of, packets_data}
use Rattle.xcp_transfer.specs.TransferValue.{response_room}
use Rattle.std.specs.List.{flat_map}
use Rattle.xcp_slave.proofs.ListInvariantLemmas.{none-holds, is_true}
use Rattle.xcp_slave.proofs.TransferInvariantLemmas.{none-behind}

packets-same : (xs ys : List (List ℕ)) → answers.Packets xs ≡ answers.Packets ys → xs ≡ ys
packets-same xs ys e = ap packets_told e

-- the positive responses of these bytes
abbrev responses : SlaveValue → List ℕ → Answer
responses v bytes = answers.Packets (block_packets (response_room (layout_of v)) bytes)

-- what a row that is accepted says
pub record Accepted (c : Command) (v : SlaveValue) (bytes : List ℕ) (w : SlaveValue) : Type 0 where
  pub allowed : first_holding (row c (found_by c v)).refusals ≡ None
  pub reply : Reply
  pub replied : (row c (found_by c v)).reply ≡ Some reply
  pub sent : bytes ≡ drop 1 (layout (layout_of v).order reply)
  pub after : w ≡ (row c (found_by c v)).after

told-bytes : (v : SlaveValue) (bytes : List ℕ) (reply : Reply) → block_packets (response_room (layout_of v)) bytes ≡ packets_of (layout_of v).order (response_room (layout_of v)) reply → bytes ≡ drop 1 (layout (layout_of v).order reply)
told-bytes v bytes reply e =
    sym (block_joined (response_room (layout_of v)) bytes) ∙ ap (λ (ps : List (List ℕ)). flat_map (λ p. drop 1 p) ps) e ∙ packets_data (layout_of v).order (response_room (layout_of v)) reply

replied-by : (c : Command) (v : SlaveValue) (bytes : List ℕ) (w : SlaveValue) (o : Option Reply) → first_holding (row c (found_by c v)).refusals ≡ None → o ≡ (row c (found_by c v)).reply → w ≡ (row c (found_by c v)).after → responses v bytes ≡ answer_of (layout_of v) o → Accepted c v bytes w
replied-by c v bytes w None h r a e = cc
replied-by c v bytes w (Some reply) h r a e = record { allowed = h; reply = reply; replied = sym r; sent = told-bytes v bytes reply (packets-same _ _ e); after = a }

refused-by : (c : Command) (v : SlaveValue) (bytes : List ℕ) (e : Reply) (R : Type 0) → first_holding (row c (found_by c v)).refusals ≡ Some e → responses v bytes ≡ answer_of (layout_of v) (Some e) → R
refused-by c v bytes e R h s =
    let f = refusal-begins (layout_of v).order c (found_by c v) e h in
    let b = block_begins (response_room (layout_of v)) bytes in
    let alone = error_packet (layout_of v).order (response_room (layout_of v)) e f.0 f.1 in
    absurd (ff-fe b.0 f.0 (ap first_of (sym b.2 ∙ packets-same _ _ s ∙ alone) ∙ f.1))

executed : (c : Command) (v : SlaveValue) (bytes : List ℕ) (w : SlaveValue) (x : Result (Option Reply) Reply) → Meets (row c (found_by c v)) (noblock v) x w → responses v bytes ≡ answer_of (layout_of v) (sent_reply x) → Accepted c v bytes w
executed c v bytes w (Ok o) m e = replied-by c v bytes w o m.0 m.1 m.2 e
executed c v bytes w (Err f) m e = refused-by c v bytes f _ m.0 e

-- a command that is accepted meets none of its row's refusals; reply and effect are the row's
pub accepted : (c : Command) (v : SlaveValue) (bytes : List ℕ) (w : SlaveValue) → Accepts v c bytes w → Accepted c v bytes w
accepted c v bytes w h =
    let k = h.answered in
    let same : k.0 ≡ Ok c = decodes_once (layout_of v).order h.packet.items k.0 (Ok c) k.1 h.spelt in
    let heeds : Heeds v (Ok c) (responses v bytes) w = subst (λ (d : Result Command Refuse). Heeds v d (responses v bytes) w) same k.2 in
    either (v.connected || is_connect c) _ _ _ heeds
    (λ m. executed c v bytes w m.0 m.1 m.2)
    (λ m. let e = m.0 in absurd (let z : ⊥ = cc in z))

-- the MTA of a slave
abbrev mta_of : SlaveValue → Mta
mta_of v = v.transfer.mta

-- the pages of a slave
abbrev pub pages_of : SlaveValue → PagesValue
pages_of v = v.transfer.pages

-- the MTA
pub upload-mta : (v w : SlaveValue) (n a : ℕ) (bytes : List ℕ) → v.transfer.mta ≡ Memory a → Accepts v (commands.Upload n) bytes w → w.transfer.mta ≡ Memory (a + n)
upload-mta v w n a bytes e h = ap mta_of (accepted (commands.Upload n) v bytes w h).after ∙ ap (λ (m : Mta). moved m n) e

-- an accepted UPLOAD of n bytes moves an MTA in a text on by n
pub upload-text : (v w : SlaveValue) (n place : ℕ) (id : TextId) (bytes : List ℕ) → v.transfer.mta ≡ Text id place → Accepts v (commands.Upload n) bytes w → w.transfer.mta ≡ Text id (place + n)
upload-text v w n place id bytes e h = ap mta_of (accepted (commands.Upload n) v bytes w h).after ∙ ap (λ (m : Mta). moved m n) e

-- an accepted SHORT_UPLOAD of n bytes at an address leaves the MTA behind them
pub short-upload-mta : (v w : SlaveValue) (n extension a : ℕ) (bytes : List ℕ) → Accepts v (commands.ShortUpload n extension a) bytes w → w.transfer.mta ≡ Memory (a + n)
short-upload-mta v w n extension a bytes h = ap mta_of (accepted (commands.ShortUpload n extension a) v bytes w h).after

-- an accepted BUILD_CHECKSUM of n bytes moves an MTA at an address on by n
pub checksum-mta : (v w : SlaveValue) (n a : ℕ) (bytes : List ℕ) → v.transfer.mta ≡ Memory a → Accepts v (commands.BuildChecksum n) bytes w → w.transfer.mta ≡ Memory (a + n)
checksum-mta v w n a bytes e h = ap mta_of (accepted (commands.BuildChecksum n) v bytes w h).after ∙ ap (λ (m : Mta). moved m n) e

-- an accepted CONNECT leaves the MTA nowhere
pub connect-mta : (v w : SlaveValue) (mode : ℕ) (bytes : List ℕ) → Accepts v (commands.Connect mode) bytes w → w.transfer.mta ≡ Nowhere
connect-mta v w mode bytes h = ap mta_of (accepted (commands.Connect mode) v bytes w h).after

-- an accepted DISCONNECT leaves the MTA nowhere
pub disconnect-mta : (v w : SlaveValue) (bytes : List ℕ) → Accepts v commands.Disconnect bytes w → w.transfer.mta ≡ Nowhere
disconnect-mta v w bytes h = ap mta_of (accepted commands.Disconnect v bytes w h).after

-- a hangup leaves the MTA nowhere
pub hangup-mta : (v w : SlaveValue) (a : Answer) → Answers v requests.Hangup a w → w.transfer.mta ≡ Nowhere
hangup-mta v w a h = ap mta_of h.1

-- an accepted GET_ID of kind 0 sets the MTA to the first byte of the identification
pub id-mta : (v w : SlaveValue) (bytes : List ℕ) → Accepts v (commands.GetId 0) bytes w → w.transfer.mta ≡ Text Id 0
id-mta v w bytes h = ap mta_of (accepted (commands.GetId 0) v bytes w h).after

-- an accepted GET_DAQ_EVENT_INFO sets the MTA to the first byte of its channel's name
pub event-mta : (v w : SlaveValue) (channel : ℕ) (bytes : List ℕ) → Accepts v (commands.GetDaqEventInfo channel) bytes w → w.transfer.mta ≡ Text (Name channel) 0
event-mta v w channel bytes h = ap mta_of (accepted (commands.GetDaqEventInfo channel) v bytes w h).after

-- an accepted SET_MTA sets the MTA to its address
pub set-mta : (v w : SlaveValue) (extension a : ℕ) (bytes : List ℕ) → Accepts v (commands.SetMta extension a) bytes w → w.transfer.mta ≡ Memory a
set-mta v w extension a bytes h = ap mta_of (accepted (commands.SetMta extension a) v bytes w h).after

-- reads

-- the data of a reply
abbrev data_in : SlaveValue → Reply → List ℕ
data_in v reply = drop 1 (layout (layout_of v).order reply)

-- an accepted UPLOAD of n bytes with the MTA at an address is answered with the tool's n bytes from there on
pub upload-reads : (v w : SlaveValue) (n a : ℕ) (bytes : List ℕ) → IsSlave v → v.transfer.mta ≡ Memory a → Accepts v (commands.Upload n) bytes w → Reads Tool v.transfer.pages a n bytes
upload-reads v w n a bytes s e h =
    let k = accepted (commands.Upload n) v bytes w h in
    let t = none-holds ((n == 0, replies.Error OutOfRange) ∷ (not (is_readable v.transfer.pages v.transfer.mta n), replies.Error AccessDenied) ∷ []) k.allowed in
    let inside : lies_inside (layout_of v) a n ≡ true = ap (λ (m : Mta). is_readable v.transfer.pages m n) (sym e) ∙ is_true _ t.1.0 in
    let same : k.reply ≡ replies.Bytes (record { items = bytes_at v.transfer.pages v.transfer.mta n }) = (let r = k.replied in cc) in
    let told : bytes ≡ tool_bytes v.transfer.pages a n = (k.sent ∙ ap (data_in v) same) ∙ ap (λ (m : Mta). bytes_at v.transfer.pages m n) e in
    (tool_is_read v.transfer.pages a n bytes s.transfer.layout s.transfer.pages).1 (inside, told)

-- at a text
pub upload-text-reads : (v w : SlaveValue) (n place : ℕ) (id : TextId) (bytes : List ℕ) → v.transfer.mta ≡ Text id place → Accepts v (commands.Upload n) bytes w → (place + n ≤ length (text_of (layout_of v) id)) × (bytes ≡ take n (drop place (text_of (layout_of v) id)))
upload-text-reads v w n place id bytes e h =
    let k = accepted (commands.Upload n) v bytes w h in
    let t = none-holds ((n == 0, replies.Error OutOfRange) ∷ (not (is_readable v.transfer.pages v.transfer.mta n), replies.Error AccessDenied) ∷ []) k.allowed in
    let enough : nat_le (place + n) (length (text_of (layout_of v) id)) ≡ true = ap (λ (m : Mta). is_readable v.transfer.pages m n) (sym e) ∙ is_true _ t.1.0 in
    let same : k.reply ≡ replies.Bytes (record { items = bytes_at v.transfer.pages v.transfer.mta n }) = (let r = k.replied in cc) in
    let told : bytes ≡ bytes_at v.transfer.pages v.transfer.mta n = (k.sent ∙ ap (data_in v) same) in
    (grind (arith, nat_tests, enough), told ∙ ap (λ (m : Mta). bytes_at v.transfer.pages m n) e)

-- an accepted SHORT_UPLOAD of n bytes is answered with the tool's n bytes from its address on
pub short-upload-reads : (v w : SlaveValue) (n extension a : ℕ) (bytes : List ℕ) → IsSlave v → Accepts v (commands.ShortUpload n extension a) bytes w → Reads Tool v.transfer.pages a n bytes
short-upload-reads v w n extension a bytes s h =
    let k = accepted (commands.ShortUpload n extension a) v bytes w h in
    let t = none-holds ((n == 0 || nat_lt ((layout_of v).max_cto - 1) n, replies.Error OutOfRange) ∷ (not (extension == 0), replies.Error OutOfRange) ∷ (not (is_readable v.transfer.pages (Memory a) n), replies.Error AccessDenied) ∷ []) k.allowed in
    let same : k.reply ≡ replies.Bytes (record { items = tool_bytes v.transfer.pages a n }) = (let r = k.replied in cc) in
    (tool_is_read v.transfer.pages a n bytes s.transfer.layout s.transfer.pages).1 (is_true _ t.1.1.0, (k.sent ∙ ap (data_in v) same))

-- bytes that can be summed up lie in one area
summed-inside : (k : ChecksumKind) (lies : Bool) (n : ℕ) → sum_refusal k lies n ≡ None → lies ≡ true
summed-inside k lies n r = let t = none-holds ((n == 0, OutOfRange) ∷ (not (n % unit k == 0), OutOfRange) ∷ (not lies, AccessDenied) ∷ []) r in is_true lies t.1.1.0

-- a checksum is the sum of the bytes that a read gives
pub checksum-sums : (v w : SlaveValue) (n a : ℕ) (bytes : List ℕ) → IsSlave v → v.transfer.mta ≡ Memory a → Accepts v (commands.BuildChecksum n) bytes w → (read : List ℕ) × Reads Tool v.transfer.pages a n read × (bytes ≡ checksum_number (layout_of v).checksum ∷ 0 ∷ 0 ∷ double_bytes (layout_of v).order (summed (layout_of v).checksum (layout_of v).order read))
checksum-sums v w n a bytes s e h =
    let k = accepted (commands.BuildChecksum n) v bytes w h in
    let t = none-holds ((nat_lt (greatest_sum (layout_of v)) n, replies.ErrorBlockSize OutOfRange (greatest_sum (layout_of v))) ∷ refused (sum_refusal_at v.transfer.pages v.transfer.mta n)) k.allowed in
    let allowed : checksum_refusal v.transfer.pages a n ≡ None = ap (λ (m : Mta). sum_refusal_at v.transfer.pages m n) (sym e) ∙ none-behind (sum_refusal_at v.transfer.pages v.transfer.mta n) t.1 in
    let inside : lies_inside (layout_of v) a n ≡ true = summed-inside (layout_of v).checksum (lies_inside (layout_of v) a n) n allowed in
    let same : k.reply ≡ replies.Checksum (checksum_number (layout_of v).checksum) (sum_at v.transfer.pages v.transfer.mta n) = (let r = k.replied in cc) in
    let told : bytes ≡ checksum_number (layout_of v).checksum ∷ 0 ∷ 0 ∷ double_bytes (layout_of v).order (sum_at v.transfer.pages v.transfer.mta n) = (k.sent ∙ ap (data_in v) same) in
    (tool_bytes v.transfer.pages a n, (tool_is_read v.transfer.pages a n _ s.transfer.layout s.transfer.pages).1 (inside, refl), told ∙ ap (λ (m : Mta). checksum_number (layout_of v).checksum ∷ 0 ∷ 0 ∷ double_bytes (layout_of v).order (sum_at v.transfer.pages m n)) e)
