-- What a refusal leaves.
use Rattle.std.proofs.Common.{◌≡◌, ℕ, ◌+◌, length, ◌==◌, ◌&&◌, nat_le, nat_lt, Bool, true, false, List, [], ◌∷◌, refl, sym, ap, ◌∙◌, subst, arith, slice_index, Option, Some, None, Result, Ok, Err, ◌||◌}
use Rattle.std.specs.Prelude.{if◌then◌else◌}
use Rattle.arrayvec.specs.ArrayVec.{ArrayVec}
use Rattle.xcp_packet.specs.ReplyPacket.{layout}
use Rattle.xcp_packet.specs.declared.Order.{Order}
use Rattle.xcp_packet.proofs.ReplyPacketLaws.{one_packet}
use Rattle.xcp_memory.specs.Layout.{LayoutValue}
use Rattle.xcp_memory.specs.Signals.{takes_signals}
use Rattle.xcp_transfer.specs.TransferValue.{response_room}
use Rattle.xcp_packet.specs.declared.Command.{Command}
use Rattle.xcp_packet.specs.declared.Command.TheVariants as commands
use Rattle.xcp_packet.specs.declared.Refuse.{Refuse}
use Rattle.xcp_packet.specs.declared.Refuse.TheVariants as refuses
use Rattle.xcp_packet.specs.declared.Reply.{Reply}
use Rattle.xcp_packet.specs.declared.Reply.TheVariants as replies
use Rattle.xcp_transfer.specs.TransferValue.{BlockValue, TransferValue}
use Rattle.xcp_packet.specs.Rows.{Meets}
use Rattle.xcp_transfer.specs.Downloads.{next_row}
use Rattle.xcp_slave.specs.declared.request.Request.{Request}
use Rattle.xcp_slave.specs.declared.request.Request.TheVariants as requests
use Rattle.xcp_slave.specs.Outcomes.{Answer}
use Rattle.xcp_slave.specs.declared.outcome.Outcome.TheVariants as answers
use Rattle.xcp_daq.specs.declared.Element.{Element}
use Rattle.xcp_daq.specs.Configuring.{read_daq_reply}
use Rattle.xcp_slave.specs.DaqRows.{entry_reply}
use Rattle.xcp_slave.specs.SlaveValue.{SlaveValue, layout_of, noblock}
use Rattle.xcp_slave.specs.RefusingAnswers.{IsErrorPacket, IsRefusal}
use Rattle.xcp_slave.specs.Rows.{row}
use Rattle.xcp_slave.specs.Step.{Answers, Heeds, Executes, Drains, Stores, Samples, Fires, outbox_size, with_event, with_loss, with_overload, with_signals, found_by, sent_reply, answer_of, is_connect}
use Rattle.xcp_slave.proofs.StepLaws.{either}

differ : (n m : ℕ) → n ≡ 0xFF → m ≡ 0xFE → n ≡ m → ⊥
differ n m a b e = omega arith

-- a list that begins with FF doesn't begin with FE
pub ff-fe : (xs ys : List ℕ) → 0xFF ∷ xs ≡ 0xFE ∷ ys → ⊥
ff-fe xs ys e = differ 0xFF 0xFE refl refl (ap (λ (zs : List ℕ). slice_index zs 0) e)

-- a reply whose bytes begin with FF is no error packet
positive : (order : Order) (x reply : Reply) (xs rest : List ℕ) → Some x ≡ Some reply → layout order x ≡ 0xFF ∷ xs → layout order reply ≡ 0xFE ∷ rest → ⊥
positive order x reply xs rest s f e = let same : x ≡ reply = cc in ff-fe xs rest (sym f ∙ ap (layout order) same ∙ e)

chosen : (order : Order) (t : Bool) (reply : Reply) (rest : List ℕ) → (if t then Some replies.Done else None) ≡ Some reply → layout order reply ≡ 0xFE ∷ rest → ⊥
chosen order true reply rest s e = positive order replies.Done reply [] rest s refl e
chosen order false reply rest s e = cc

next-positive : (order : Order) (o : Option BlockValue) (remaining : ℕ) (bytes : List ℕ) (t : TransferValue) (reply : Reply) (rest : List ℕ) → (next_row o remaining bytes t).reply ≡ Some reply → layout order reply ≡ 0xFE ∷ rest → ⊥
next-positive order None remaining bytes t reply rest s e = cc
next-positive order (Some b) remaining bytes t reply rest s e = chosen order _ reply rest s e

info-positive : (order : Order) (t : Bool) (word pages : ℕ) (reply : Reply) (rest : List ℕ) → Some (if t then replies.SegmentWord word else replies.SegmentStandard pages) ≡ Some reply → layout order reply ≡ 0xFE ∷ rest → ⊥
info-positive order true word pages reply rest s e = positive order (replies.SegmentWord word) reply _ rest s refl e
info-positive order false word pages reply rest s e = positive order (replies.SegmentStandard pages) reply _ rest s refl e

entry-positive : (order : Order) (o : Option Element) (reply : Reply) (rest : List ℕ) → Some (entry_reply o) ≡ Some reply → layout order reply ≡ 0xFE ∷ rest → ⊥
entry-positive order None reply rest s e = positive order (replies.DaqEntry 0 0 0) reply _ rest s refl e
entry-positive order (Some x) reply rest s e = positive order (entry_reply (Some x)) reply _ rest s refl e

-- A row that replies with an error packet is SYNCH's.
pub row-synch : (c : Command) (v : SlaveValue) (reply : Reply) (rest : List ℕ) → (row c (found_by c v)).reply ≡ Some reply → layout (layout_of v).order reply ≡ 0xFE ∷ rest → c ≡ commands.Synch
row-synch (commands.DownloadNext remaining bytes) v reply rest s e = absurd (next-positive (layout_of v).order v.transfer.block remaining bytes.items v.transfer reply rest s e)
row-synch (commands.Synch) v reply rest s e = refl
row-synch (commands.Download n bytes) v reply rest s e = absurd (chosen (layout_of v).order _ reply rest s e)
row-synch (commands.GetSegmentInfo mode segment info mapping) v reply rest s e = absurd (info-positive (layout_of v).order (mode == 0) _ _ reply rest s e)
row-synch commands.ReadDaq v reply rest s e = absurd (entry-positive (layout_of v).order (read_daq_reply v.daq) reply rest s e)
row-synch _ v reply rest s e = absurd (positive (layout_of v).order _ reply _ rest s refl e)

row-error : (c : Command) (v : SlaveValue) (reply : Reply) (rest : List ℕ) → (row c (found_by c v)).reply ≡ Some reply → layout (layout_of v).order reply ≡ 0xFE ∷ rest → (row c (found_by c v)).after ≡ noblock v
row-error c v reply rest s e = subst (λ (d : Command). (row d (found_by d v)).after ≡ noblock v) (sym (row-synch c v reply rest s e)) refl

-- the packets of an answer
abbrev pub packets_told : Answer → List (List ℕ)
packets_told (answers.Packets ps) = ps
packets_told _ = []

-- the reply that an error packet shows
shown : (l : LayoutValue) (o : Option Reply) (a : Answer) (r : IsErrorPacket a) → a ≡ answer_of l o → (reply : Reply) × (o ≡ Some reply) × (layout l.order reply ≡ 0xFE ∷ r.code ∷ r.rest)
shown l None a r h = let e : answers.Silent ≡ answers.Packets ((0xFE ∷ r.code ∷ r.rest) ∷ []) = sym h ∙ r.packet in absurd (let z : ⊥ = cc in z)
shown l (Some reply) a r h = (reply, refl, one_packet l.order (response_room l) reply (0xFE ∷ r.code ∷ r.rest) (ap packets_told (sym h ∙ r.packet)))

meets-error : (c : Command) (v : SlaveValue) (x : Result (Option Reply) Reply) (w : SlaveValue) (reply : Reply) (rest : List ℕ) → Meets (row c (found_by c v)) (noblock v) x w → sent_reply x ≡ Some reply → layout (layout_of v).order reply ≡ 0xFE ∷ rest → w ≡ noblock v
meets-error c v (Ok o) w reply rest h s e = h.2 ∙ row-error c v reply rest (sym h.1 ∙ s) e
meets-error c v (Err code) w reply rest h s e = h.1

executes-error : (c : Command) (v : SlaveValue) (a : Answer) (w : SlaveValue) → IsErrorPacket a → Executes c v a w → w ≡ noblock v
executes-error c v a w r k = let s = shown (layout_of v) (sent_reply k.0) a r k.2 in meets-error c v k.0 w s.0 (r.code ∷ r.rest) k.1 s.1 s.2

silent-error : (a : Answer) (R : Type 0) → IsErrorPacket a → a ≡ answers.Silent → R
silent-error a R r h = let e : answers.Silent ≡ answers.Packets ((0xFE ∷ r.code ∷ r.rest) ∷ []) = sym h ∙ r.packet in cc

heeds-error : (v : SlaveValue) (d : Result Command Refuse) (a : Answer) (w : SlaveValue) → Heeds v d a w → IsErrorPacket a → w ≡ noblock v
heeds-error v (Ok c) a w h r = either (v.connected || is_connect c) _ _ _ h (λ k. executes-error c v a w r k) (λ k. silent-error a _ r k.0)
heeds-error v (Err refuses.Empty) a w h r = silent-error a _ r h.0
heeds-error v (Err refuses.Unknown) a w h r = either v.connected _ _ _ h (λ k. k.1) (λ k. silent-error a _ r k.0)
heeds-error v (Err refuses.Short) a w h r = either v.connected _ _ _ h (λ k. k.1) (λ k. silent-error a _ r k.0)

-- a command's error packet other than FE 00 leaves the slave as it was, but without a block
pub error-leaves : (v : SlaveValue) (packet : ArrayVec ℕ) (a : Answer) (w : SlaveValue) → Answers v (requests.Command packet) a w → IsErrorPacket a → w ≡ noblock v
error-leaves v packet a w h r = heeds-error v h.0 a w h.2 r

-- nothing that is sent says that nothing was done
sent-refusal : (l : LayoutValue) (o : Option Reply) (R : Type 0) → IsRefusal (answer_of l o) → R
sent-refusal l None R r = absurd r
sent-refusal l (Some reply) R r = absurd r

heeds-refusal : (v : SlaveValue) (d : Result Command Refuse) (a : Answer) (w : SlaveValue) → Heeds v d a w → IsRefusal a → w ≡ v
heeds-refusal v (Ok c) a w h r = either (v.connected || is_connect c) _ _ _ h (λ k. sent-refusal (layout_of v) (sent_reply k.0) _ (subst IsRefusal k.2 r)) (λ k. k.1)
heeds-refusal v (Err refuses.Empty) a w h r = h.1
heeds-refusal v (Err refuses.Unknown) a w h r = either v.connected _ _ _ h (λ k. absurd (subst IsRefusal k.0 r)) (λ k. k.1)
heeds-refusal v (Err refuses.Short) a w h r = either v.connected _ _ _ h (λ k. absurd (subst IsRefusal k.0 r)) (λ k. k.1)

drains-refusal : (o : List (ArrayVec ℕ)) (v : SlaveValue) (a : Answer) (w : SlaveValue) → Drains o v a w → IsRefusal a → w ≡ v
drains-refusal [] v a w h r = h.1
drains-refusal (packet ∷ rest) v a w h r = absurd (subst IsRefusal h.0 r)

stores-refusal : (v : SlaveValue) (a : Answer) (w : SlaveValue) → Stores v a w → IsRefusal a → w ≡ v
stores-refusal v a w h r = either (v.connected && nat_le (outbox_size v) (length v.outbox)) _ _ _ h (λ k. k.1) (λ k. absurd (subst IsRefusal k.0 r))

samples-refusal : (channel : ℕ) (packets : List (ArrayVec ℕ)) (v u : SlaveValue) (a : Answer) (w : SlaveValue) → Samples channel packets u a w → IsRefusal a → w ≡ v
samples-refusal channel packets v u a w h r = either (nat_le (length u.outbox + length (with_overload (outbox_size u) u.overloaded packets)) (outbox_size u)) _ _ _ h (λ k. absurd (subst IsRefusal k.0 r)) (λ k. absurd (subst IsRefusal k.0 r))

fires-refusal : (channel : ℕ) (signals : List ℕ) (v : SlaveValue) (a : Answer) (w : SlaveValue) → Fires channel signals v a w → IsRefusal a → w ≡ v
fires-refusal channel signals v a w h r =
    either (nat_lt channel (length (layout_of v).events)) _ _ _ h
    (λ k. either (takes_signals (layout_of v) (length signals)) _ _ _ k (λ l. samples-refusal channel _ v (with_signals signals v) a w l r) (λ l. l.1))
    (λ k. k.1)

-- what an overrun leaves
samples-overrun : (channel : ℕ) (packets : List (ArrayVec ℕ)) (v w : SlaveValue) → Samples channel packets v answers.Overrun w → w ≡ with_loss channel v
samples-overrun channel packets v w h = either (nat_le (length v.outbox + length (with_overload (outbox_size v) v.overloaded packets)) (outbox_size v)) _ _ _ h (λ k. let e = k.0 in cc) (λ k. k.1)

-- an event that overruns changes the signals, the lists' counts of events and whether the tool has to be told, and nothing else
pub overrun-leaves : (v : SlaveValue) (channel : ℕ) (signals : ArrayVec ℕ) (w : SlaveValue) → Answers v (requests.Event channel signals) answers.Overrun w → w ≡ record (with_event channel (with_signals signals.items v)) { overloaded = (layout_of v).extras.tells_overload }
overrun-leaves v channel signals w h =
    either (nat_lt channel (length (layout_of v).events)) _ _ _ h
    (λ k. either (takes_signals (layout_of v) (length signals.items)) _ _ _ k (samples-overrun channel _ (with_signals signals.items v) w) (λ l. let e = l.0 in cc))
    (λ k. let e = k.0 in cc)

-- an answer that says that nothing was done leaves the slave as it was
pub refusal-leaves : (v : SlaveValue) (q : Request) (a : Answer) (w : SlaveValue) → Answers v q a w → IsRefusal a → w ≡ v
refusal-leaves v (requests.Command p) a w h r = heeds-refusal v h.0 a w h.2 r
refusal-leaves v (requests.Event channel signals) a w h r = fires-refusal channel signals.items v a w h r
refusal-leaves v requests.Drain a w h r = drains-refusal v.outbox v a w h r
refusal-leaves v requests.FinishStore a w h r = either v.store _ _ _ h (λ k. stores-refusal v a w k r) (λ k. k.1)
refusal-leaves v requests.Hangup a w h r = absurd (subst IsRefusal h.0 r)
refusal-leaves v (requests.Time time) a w h r = absurd (subst IsRefusal h.0 r)
refusal-leaves v (requests.Signals place bytes) a w h r =
    either (nat_le (place + length bytes.items) (layout_of v).signals_length) _ _ _ h (λ k. absurd (subst IsRefusal k.0 r)) (λ k. k.1)
