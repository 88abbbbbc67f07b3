-- Error packets.
use Rattle.std.proofs.Common.{◌≡◌, ◌≢◌, ℕ, zero, ◌+◌, Bool, true, false, List, [], ◌∷◌, length, Option, Some, None, Result, Ok, Err, ap, sym, ◌∙◌, refl, subst, arith, inl, inr, nat_le, nat_lt, slice_index, All}
use Rattle.std.specs.Prelude.{◌==◌, ◌&&◌, ◌||◌, ◌⊎◌}
use Rattle.std.proofs.lemmas.Bool.Decides.{nat_tests}
use Rattle.arrayvec.specs.ArrayVec.{ArrayVec}
use Rattle.xcp_packet.specs.ReplyPacket.{layout, number_of}
use Rattle.xcp_packet.specs.ByteOrder.{double_bytes}
use Rattle.xcp_packet.specs.CommandForms.{code}
use Rattle.xcp_packet.specs.CommandSpelling.{spells}
use Rattle.xcp_packet.specs.Decoding.{Decodes}
use Rattle.xcp_packet.proofs.DecodingLaws.{decodes_once}
use Rattle.xcp_packet.specs.Rows.{Meets}
use Rattle.xcp_packet.specs.declared.Order.{Order}
use Rattle.xcp_packet.proofs.ReplyPacketLaws.{first_of, one_packet}
use Rattle.xcp_transfer.specs.TransferValue.{response_room}
use Rattle.xcp_packet.specs.declared.Command.{Command}
use Rattle.xcp_packet.specs.declared.Command.TheVariants as commands
use Rattle.xcp_packet.specs.declared.Refuse.{Refuse}
use Rattle.xcp_packet.specs.declared.Refuse.TheVariants as refuses
use Rattle.xcp_packet.specs.declared.Reply.{Reply}
use Rattle.xcp_packet.specs.declared.Reply.TheVariants as replies
use Rattle.xcp_packet.specs.declared.Code.{Code}
use Rattle.xcp_packet.specs.declared.Code.TheVariants.{CmdSynch, CmdUnknown, CmdSyntax}
use Rattle.xcp_memory.specs.Freeze.{frozen_count}
use Rattle.xcp_memory.specs.Layout.{LayoutValue}
use Rattle.xcp_memory.specs.Signals.{takes_signals}
use Rattle.xcp_slave.specs.declared.request.Request.{Request}
use Rattle.xcp_slave.specs.declared.request.Request.TheVariants as requests
use Rattle.xcp_slave.specs.Outcomes.{Answer}
use Rattle.xcp_slave.specs.declared.outcome.Outcome.TheVariants as answers
use Rattle.xcp_slave.specs.SlaveValue.{SlaveValue, layout_of, noblock}
use Rattle.xcp_slave.specs.RefusalCodes.{is_code_of}
use Rattle.xcp_slave.specs.RefusingAnswers.{IsErrorPacket, IsRefusing, is_refusal_code}
use Rattle.xcp_slave.specs.Rows.{row}
use Rattle.xcp_slave.specs.Step.{Answers, Heeds, Executes, Drains, Samples, outbox_size, with_overload, with_signals, found_by, answer_of, sent_reply, is_connect}
use Rattle.xcp_slave.specs.SlaveInvariant.{IsSlave, IsWaiting}
use Rattle.xcp_slave.proofs.ClassLimitLemmas.{few-odts}
use Rattle.xcp_slave.proofs.StepLaws.{either}
use Rattle.xcp_slave.proofs.RefusalLaws.{packets_told, error-leaves, row-synch}
use Rattle.xcp_slave.proofs.RefusalCodeLemmas.{both-true, is_error, is_error_of, refusal-error, refusal-of}

-- what waits is no response
no-response : (l : LayoutValue) (p : ArrayVec ℕ) → IsWaiting l p → (slice_index p.items 0 ≢ 0xFF) × (slice_index p.items 0 ≢ 0xFE)
no-response l p (inl e) =
    let first : slice_index p.items 0 ≡ 0xFD = ap (λ (x : ArrayVec ℕ). slice_index x.items 0) e in
    (λ k. omega arith, λ k. omega arith)
no-response l p (inr (inl e)) =
    let first : slice_index p.items 0 ≡ 0xFD = ap (λ (x : ArrayVec ℕ). slice_index x.items 0) e.1 in
    (λ k. omega arith, λ k. omega arith)
no-response l p (inr (inr d)) = let b = d.pid in (λ k. omega (arith, few-odts l.class), λ k. omega (arith, few-odts l.class))

-- no packet that waits begins with FF or FE, as responses do
pub waiting-responds : (v : SlaveValue) → IsSlave v → All (λ (p : ArrayVec ℕ). (slice_index p.items 0 ≢ 0xFF) × (slice_index p.items 0 ≢ 0xFE)) v.outbox
waiting-responds v h = λ k d below. no-response (layout_of v) _ (h.waiting k d below)

-- an error packet, whatever the request
drains-error : (o : List (ArrayVec ℕ)) (v : SlaveValue) (a : Answer) (w : SlaveValue) (R : Type 0) → All (IsWaiting (layout_of v)) o → Drains o v a w → IsErrorPacket a → R
drains-error [] v a w R h k r = let e : answers.Nothing ≡ answers.Packets ((0xFE ∷ r.code ∷ r.rest) ∷ []) = sym k.0 ∙ r.packet in cc
drains-error (p ∷ rest) v a w R h k r =
    let e : answers.Packets (p.items ∷ []) ≡ answers.Packets ((0xFE ∷ r.code ∷ r.rest) ∷ []) = sym k.0 ∙ r.packet in
    let first : slice_index p.items 0 ≡ 0xFE = ap (λ (x : Answer). slice_index (first_of (packets_told x)) 0) e in
    absurd ((no-response (layout_of v) p (h zero p (omega arith))).1 first)

-- other answers are no packets
abbrev is_packet : Answer → Bool
is_packet (answers.Packets ps) = true
is_packet _ = false

other-error : (x a : Answer) (R : Type 0) → is_packet x ≡ false → a ≡ x → IsErrorPacket a → R
other-error x a R n e r = let z : is_packet x ≡ true = ap (λ (y : Answer). is_packet y) (sym e ∙ r.packet) in let t : true ≡ false = sym z ∙ n in cc

samples-error : (channel : ℕ) (packets : List (ArrayVec ℕ)) (v : SlaveValue) (a : Answer) (w : SlaveValue) (R : Type 0) → IsErrorPacket a → Samples channel packets v a w → R
samples-error channel packets v a w R r k = either (nat_le (length v.outbox + length (with_overload (outbox_size v) v.overloaded packets)) (outbox_size v)) _ _ _ k (λ o. other-error (answers.Sampled (length (with_overload (outbox_size v) v.overloaded packets))) a _ refl o.0 r) (λ o. other-error answers.Overrun a _ refl o.0 r)

-- an error packet other than FE 00 leaves the slave as it was but without a block, whatever the request
pub every-error : (v : SlaveValue) (q : Request) (a : Answer) (w : SlaveValue) → IsSlave v → Answers v q a w → IsErrorPacket a → w ≡ noblock v
every-error v (requests.Command p) a w h k r = error-leaves v p a w k r
every-error v (requests.Event channel signals) a w h k r =
    either (nat_lt channel (length (layout_of v).events)) _ _ _ k
    (λ m. either (takes_signals (layout_of v) (length signals.items)) _ _ _ m (λ n. samples-error channel _ (with_signals signals.items v) a w _ r n) (λ n. other-error answers.BadSignals a _ refl n.0 r))
    (λ m. other-error answers.NoChannel a _ refl m.0 r)
every-error v requests.Drain a w h k r = drains-error v.outbox v a w _ h.waiting k r
every-error v requests.FinishStore a w h k r = either v.store _ _ _ k (λ m. either (v.connected && nat_le (outbox_size v) (length v.outbox)) _ _ _ m (λ n. other-error answers.Later a _ refl n.0 r) (λ n. other-error (answers.Stored (frozen_count v.transfer.pages)) a _ refl n.0 r)) (λ m. other-error answers.NoStore a _ refl m.0 r)
every-error v requests.Hangup a w h k r = other-error answers.Silent a _ refl k.0 r
every-error v (requests.Time time) a w h k r = other-error answers.Silent a _ refl k.0 r
every-error v (requests.Signals place bytes) a w h k r =
    either (nat_le (place + length bytes.items) (layout_of v).signals_length) _ _ _ k (λ m. other-error answers.Silent a _ refl m.0 r) (λ m. other-error answers.BadSignals a _ refl m.0 r)

-- the bytes of an error packet of a command

-- the reply whose packet an answer is
shown : (l : LayoutValue) (o : Option Reply) (p : List ℕ) → answers.Packets (p ∷ []) ≡ answer_of l o → (reply : Reply) × (o ≡ Some reply) × (p ≡ layout l.order reply)
shown l None p e = absurd (let z : ⊥ = cc in z)
shown l (Some reply) p e = (reply, refl, sym (one_packet l.order (response_room l) reply p (ap packets_told (sym e))))

-- a refusal's packet
refusing : (order : Order) (reply : Reply) → is_error reply ≡ true → IsRefusing (layout order reply)
refusing order (replies.Error code) h = record { code = number_of code; known = h; shape = inl refl }
refusing order (replies.ErrorCount code count) h =
    let last : (number_of code == 0x29) ≡ true = (both-true (is_refusal_code (number_of code)) (number_of code == 0x29) h).1 in
    let same : number_of code ≡ 0x29 = grind (arith, nat_tests, last) in
    record { code = number_of code; known = ap is_refusal_code same; shape = inr (inl (count, same, ap (λ (n : ℕ). 0xFE ∷ n ∷ count ∷ []) same)) }
refusing order (replies.ErrorBlockSize code size) h =
    let last : (number_of code == 0x22) ≡ true = (both-true (is_refusal_code (number_of code)) (number_of code == 0x22) h).1 in
    let same : number_of code ≡ 0x22 = grind (arith, nat_tests, last) in
    record { code = number_of code; known = ap is_refusal_code same; shape = inr (inr (order, size, same, ap (λ (n : ℕ). 0xFE ∷ n ∷ 0 ∷ 0 ∷ double_bytes order size) same)) }
refusing order _ h = cc

-- the answer to SYNCH, or to a command that is refused
Codes : Command → List ℕ → Type 0
Codes c bytes = ((c ≡ commands.Synch) × (bytes ≡ 0xFE ∷ 0x00 ∷ [])) ⊎ IsRefusing bytes

synch-bytes : (c : Command) (v : SlaveValue) (reply : Reply) → c ≡ commands.Synch → (row c (found_by c v)).reply ≡ Some reply → layout (layout_of v).order reply ≡ 0xFE ∷ 0x00 ∷ []
synch-bytes c v reply e s =
    let now : (row commands.Synch (found_by commands.Synch v)).reply ≡ Some reply = subst (λ (d : Command). (row d (found_by d v)).reply ≡ Some reply) e s in
    let same : replies.Error CmdSynch ≡ reply = cc in
    ap (layout (layout_of v).order) (sym same)

meets-codes : (c : Command) (v : SlaveValue) (x : Result (Option Reply) Reply) (w : SlaveValue) (reply : Reply) (rest : List ℕ) → Meets (row c (found_by c v)) (noblock v) x w → sent_reply x ≡ Some reply → layout (layout_of v).order reply ≡ 0xFE ∷ rest → Codes c (layout (layout_of v).order reply)
unfolding Codes
meets-codes c v (Ok o) w reply rest m s e = let y = row-synch c v reply rest (sym m.1 ∙ s) e in inl (y, synch-bytes c v reply y (sym m.1 ∙ s))
meets-codes c v (Err f) w reply rest m s e =
    let same : f ≡ reply = cc in
    inr (refusing (layout_of v).order reply (subst (λ (y : Reply). is_error y ≡ true) same (refusal-error c (found_by c v) f m.0)))

executes-codes : (c : Command) (v : SlaveValue) (p : List ℕ) (w : SlaveValue) (rest : List ℕ) → Executes c v (answers.Packets (p ∷ [])) w → p ≡ 0xFE ∷ rest → Codes c p
executes-codes c v p w rest k e =
    let s = shown (layout_of v) (sent_reply k.0) p k.2 in
    subst (Codes c) (sym s.2) (meets-codes c v k.0 w s.0 rest k.1 s.1 (sym s.2 ∙ e))

-- the same in the packet's words
abbrev Told : List ℕ → List ℕ → Type 0
Told packet bytes = ((slice_index packet 0 ≡ 0xFC) × (bytes ≡ 0xFE ∷ 0x00 ∷ [])) ⊎ IsRefusing bytes

spelt-codes : (order : Order) (c : Command) (packet bytes : List ℕ) → spells order c packet → Codes c bytes → Told packet bytes
unfolding Codes
spelt-codes order c packet bytes s (inl k) = inl (s.0.first ∙ ap code k.0, k.1)
spelt-codes order c packet bytes s (inr k) = inr k

ignored-packet : (p : List ℕ) (R : Type 0) → answers.Packets (p ∷ []) ≡ answers.Silent → R
ignored-packet p R e = cc

refused-packet : (v : SlaveValue) (code : Code) (p : List ℕ) (packet : List ℕ) → is_refusal_code (number_of code) ≡ true → answers.Packets (p ∷ []) ≡ answer_of (layout_of v) (Some (replies.Error code)) → Told packet p
refused-packet v code p packet h e =
    let s = shown (layout_of v) (Some (replies.Error code)) p e in
    let same : replies.Error code ≡ s.0 = (let k = s.1 in cc) in
    inr (subst IsRefusing (ap (layout (layout_of v).order) same ∙ sym s.2) (refusing (layout_of v).order (replies.Error code) h))

heeds-codes : (v : SlaveValue) (packet : List ℕ) (d : Result Command Refuse) (p : List ℕ) (w : SlaveValue) (rest : List ℕ) → Decodes (layout_of v).order packet d → Heeds v d (answers.Packets (p ∷ [])) w → p ≡ 0xFE ∷ rest → Told packet p
heeds-codes v packet (Ok c) p w rest s h e = either (v.connected || is_connect c) _ _ _ h (λ k. spelt-codes (layout_of v).order c packet p s (executes-codes c v p w rest k e)) (λ k. ignored-packet p _ k.0)
heeds-codes v packet (Err refuses.Empty) p w rest s h e = ignored-packet p _ h.0
heeds-codes v packet (Err refuses.Unknown) p w rest s h e = either v.connected _ _ _ h (λ k. refused-packet v CmdUnknown p packet refl k.0) (λ k. ignored-packet p _ k.0)
heeds-codes v packet (Err refuses.Short) p w rest s h e = either v.connected _ _ _ h (λ k. refused-packet v CmdSyntax p packet refl k.0) (λ k. ignored-packet p _ k.0)

-- a command's answer that begins with FE is FE 00, to SYNCH (FC), or an error packet with a refusal's code
pub error-codes : (v : SlaveValue) (q : ArrayVec ℕ) (p : List ℕ) (w : SlaveValue) (rest : List ℕ) → Answers v (requests.Command q) (answers.Packets (p ∷ [])) w → p ≡ 0xFE ∷ rest → ((slice_index q.items 0 ≡ 0xFC) × (p ≡ 0xFE ∷ 0x00 ∷ [])) ⊎ IsRefusing p
error-codes v q p w rest h e = heeds-codes v q.items h.0 p w rest h.1 h.2 e

-- the code of a command's error packet

told-code : (known : ℕ → Bool) (order : Order) (reply : Reply) (code : ℕ) (rest : List ℕ) → is_error_of known reply ≡ true → layout order reply ≡ 0xFE ∷ code ∷ rest → known code ≡ true
told-code known order (replies.Error k) code rest h e = subst (λ (n : ℕ). known n ≡ true) (ap (λ (xs : List ℕ). slice_index xs 1) e) h
told-code known order (replies.ErrorCount k count) code rest h e = subst (λ (n : ℕ). known n ≡ true) (ap (λ (xs : List ℕ). slice_index xs 1) e) (both-true (known (number_of k)) (number_of k == 0x29) h).0
told-code known order (replies.ErrorBlockSize k size) code rest h e = subst (λ (n : ℕ). known n ≡ true) (ap (λ (xs : List ℕ). slice_index xs 1) e) (both-true (known (number_of k)) (number_of k == 0x22) h).0
told-code known order _ code rest h e = cc

meets-code : (c : Command) (v : SlaveValue) (x : Result (Option Reply) Reply) (w : SlaveValue) (reply : Reply) (code : ℕ) (rest : List ℕ) → Meets (row c (found_by c v)) (noblock v) x w → sent_reply x ≡ Some reply → layout (layout_of v).order reply ≡ 0xFE ∷ code ∷ rest → code ≢ 0x00 → is_code_of c code ≡ true
meets-code c v (Ok o) w reply code rest m s e other =
    let y = row-synch c v reply (code ∷ rest) (sym m.1 ∙ s) e in
    let synch = synch-bytes c v reply y (sym m.1 ∙ s) in
    absurd (other (ap (λ (xs : List ℕ). slice_index xs 1) (sym e ∙ synch)))
meets-code c v (Err f) w reply code rest m s e other =
    let same : f ≡ reply = cc in
    told-code (is_code_of c) (layout_of v).order f code rest (refusal-of c (found_by c v) f m.0) (ap (layout (layout_of v).order) same ∙ e)

executes-code : (c : Command) (v : SlaveValue) (p : List ℕ) (w : SlaveValue) (code : ℕ) (rest : List ℕ) → Executes c v (answers.Packets (p ∷ [])) w → p ≡ 0xFE ∷ code ∷ rest → code ≢ 0x00 → is_code_of c code ≡ true
executes-code c v p w code rest k e other =
    let s = shown (layout_of v) (sent_reply k.0) p k.2 in
    meets-code c v k.0 w s.0 code rest k.1 s.1 (sym s.2 ∙ e) other

-- a packet that spells a command is answered by an error packet with one of that command's codes, but for SYNCH's FE 00
pub command-codes : (v : SlaveValue) (c : Command) (q : ArrayVec ℕ) (p : List ℕ) (w : SlaveValue) (code : ℕ) (rest : List ℕ) → spells (layout_of v).order c q.items → Answers v (requests.Command q) (answers.Packets (p ∷ [])) w → p ≡ 0xFE ∷ code ∷ rest → code ≢ 0x00 → is_code_of c code ≡ true
command-codes v c q p w code rest s h e other =
    let same : h.0 ≡ Ok c = decodes_once (layout_of v).order q.items h.0 (Ok c) h.1 s in
    let heeds : Heeds v (Ok c) (answers.Packets (p ∷ [])) w = subst (λ (d : Result Command Refuse). Heeds v d (answers.Packets (p ∷ [])) w) same h.2 in
    either (v.connected || is_connect c) _ _ _ heeds (λ k. executes-code c v p w code rest k e other) (λ k. ignored-packet p _ k.0)
