-- Slaves whose layout asks for nothing that only some slaves have.
use Rattle.std.proofs.Common.{◌≡◌, ◌≢◌, ◌<◌, ◌≤◌, ℕ, Bool, true, false, List, [], ◌∷◌, drop, length, slice_index, Option, Some, None, Result, Ok, Err, inl, inr, ap, sym, ◌∙◌, refl, subst, arith, All}
use Rattle.std.specs.Prelude.{◌⊎◌, ◌||◌, not, MatchBool}
use Rattle.std.proofs.lemmas.List.Elements.{All-cons, All-head, All-nil, All-tail}
use Rattle.arrayvec.specs.ArrayVec.{ArrayVec}
use Rattle.xcp_packet.proofs.DecodingLaws.{decodes_once}
use Rattle.xcp_packet.proofs.ReplyPacketLaws.{first_of}
use Rattle.xcp_packet.specs.Decoding.{Decodes}
use Rattle.xcp_packet.specs.Rows.{first_holding, refused}
use Rattle.xcp_packet.specs.declared.Code.TheVariants.{CmdUnknown}
use Rattle.xcp_packet.specs.declared.Command.{Command}
use Rattle.xcp_packet.specs.declared.Command.TheVariants as commands
use Rattle.xcp_packet.specs.declared.Order.{Order}
use Rattle.xcp_packet.specs.declared.Refuse.{Refuse}
use Rattle.xcp_packet.specs.declared.Reply.{Reply}
use Rattle.xcp_packet.specs.declared.Reply.TheVariants as replies
use Rattle.xcp_memory.specs.Layout.{ExtrasValue, IsLayout, IsPlain, LayoutValue}
use Rattle.xcp_daq.specs.Configuring.{write_daq_multiple_refusal}
use Rattle.xcp_transfer.specs.declared.TextId.{TextId}
use Rattle.xcp_transfer.specs.Uploads.{text_length}
use Rattle.xcp_slave.specs.Outcomes.{Answer}
use Rattle.xcp_slave.specs.Rows.{level_refusal, row}
use Rattle.xcp_slave.specs.Run.{Run}
use Rattle.xcp_slave.specs.SlaveInvariant.{IsDataPacket, IsOfBytes, IsSlave}
use Rattle.xcp_slave.specs.SlaveValue.{SlaveValue, layout_of, noblock, opening}
use Rattle.xcp_slave.specs.Step.{Answers, Drains, Executes, Heeds, Ignores, answer_of, found_by, store_event}
use Rattle.xcp_slave.specs.declared.Exchange.{Exchange}
use Rattle.xcp_slave.specs.declared.Outcome.TheVariants as answers
use Rattle.xcp_slave.specs.declared.Request.{Request}
use Rattle.xcp_slave.specs.declared.Request.TheVariants as requests
use Rattle.xcp_slave.proofs.ClassLimitLemmas.{few-odts}
use Rattle.xcp_slave.proofs.LayoutKeptLemmas.{answers-layout}
use Rattle.xcp_slave.proofs.OverloadLaws.{waiting-unasked}
use Rattle.xcp_slave.proofs.RefusalLaws.{packets_told}
use Rattle.xcp_slave.proofs.SlaveInvariantLaws.{answers-kept, opening-slave}
use Rattle.xcp_slave.proofs.UnaffectedPartLaws.{plain-texts}
use Rattle.xcp_laws.proofs.FirstRefusals.{replied}
use Rattle.xcp_laws.proofs.PositiveAnswers.{holds-first-reply}
use Rattle.xcp_laws.specs.PlainAnswers.{HasNothingNew, IsNoText, IsUnknown}

-- Packets that spell a command: it is executed while a tool is connected, and else ignored.

heeded : (v w : SlaveValue) (packet : ArrayVec ℕ) (c : Command) (a : Answer) → Decodes (layout_of v).order packet.items (Ok c) → Answers v (requests.Command packet) a w → Heeds v (Ok c) a w
heeded v w packet c a spelt h = subst (λ (d : Result Command Refuse). Heeds v d a w) (decodes_once (layout_of v).order packet.items h.0 (Ok c) h.1 spelt) h.2

taken : (on : Bool) (P Q R : Type 0) → (on ≡ true → P → R) → (on ≡ false → Q → R) → MatchBool (on || false) P Q → R
taken true P Q R p q h = p refl h
taken false P Q R p q h = q refl h

-- a packet whose first byte isn't 0 has one
has-one : (p : List ℕ) (n : ℕ) → 0 < n → slice_index p 0 ≡ n → 1 ≤ length p
has-one [] n some e = let none : ◌≡◌ {A = ℕ} 0 n = e in omega (arith, none, some)
has-one (b ∷ p) n some e = omega arith

spelt-version : (order : Order) (p : List ℕ) → slice_index p 0 ≡ 0xC0 → Decodes order p (Ok (commands.GetVersion (record { items = drop 1 p })))
spelt-version order p e = (record { first = e; enough = has-one p 0xC0 (omega arith) e }, (refl, tt))

spelt-multiple : (order : Order) (p : List ℕ) → slice_index p 0 ≡ 0xC7 → Decodes order p (Ok (commands.WriteDaqMultiple (record { items = drop 1 p })))
spelt-multiple order p e = (record { first = e; enough = has-one p 0xC7 (omega arith) e }, (refl, tt))

spelt-id : (order : Order) (p : List ℕ) → 2 ≤ length p → slice_index p 0 ≡ 0xFA → Decodes order p (Ok (commands.GetId (slice_index p 1)))
spelt-id order p two e = (record { first = e; enough = two }, (refl, tt))

-- Commands that the layout doesn't ask for.

-- what comes of a packet that isn't known
abbrev Unknown : SlaveValue → Answer → SlaveValue → Type 0
Unknown v a w = ((v.connected ≡ true) × (a ≡ answers.Packets ((0xFE ∷ 0x20 ∷ []) ∷ [])) × (w ≡ noblock v)) ⊎ ((v.connected ≡ false) × (a ≡ answers.Silent) × (w ≡ v))

-- a row whose first refusal is ERR_CMD_UNKNOWN
refuses-unknown : (c : Command) (v w : SlaveValue) (a : Answer) → first_holding (row c (found_by c v)).refusals ≡ Some (replies.Error CmdUnknown) → Executes c v a w → (a ≡ answers.Packets ((0xFE ∷ 0x20 ∷ []) ∷ [])) × (w ≡ noblock v)
refuses-unknown c v w a r (Ok o, m, s) = absurd (let z : ◌≡◌ {A = Option Reply} None (Some (replies.Error CmdUnknown)) = sym m.0 ∙ r in cc)
refuses-unknown c v w a r (Err f, m, s) = (s ∙ ap (λ (o : Option Reply). answer_of (layout_of v) o) (sym m.0 ∙ r), m.1)

version-refused : (v : SlaveValue) (items : ArrayVec ℕ) → (layout_of v).extras.uploads_a2l ≡ false → first_holding (row (commands.GetVersion items) (found_by (commands.GetVersion items) v)).refusals ≡ Some (replies.Error CmdUnknown)
version-refused v items off =
    holds-first-reply (not (layout_of v).extras.uploads_a2l) (replies.Error CmdUnknown) (refused (level_refusal items.items)) (ap not off)

multiple-refused : (v : SlaveValue) (items : ArrayVec ℕ) → (layout_of v).extras.uploads_a2l ≡ false → first_holding (row (commands.WriteDaqMultiple items) (found_by (commands.WriteDaqMultiple items) v)).refusals ≡ Some (replies.Error CmdUnknown)
multiple-refused v items off =
    holds-first-reply (not (layout_of v).extras.uploads_a2l) (replies.Error CmdUnknown) (refused (write_daq_multiple_refusal (layout_of v) items.items v.daq)) (ap not off)

version-unknown : (v w : SlaveValue) (packet : ArrayVec ℕ) (a : Answer) → (layout_of v).extras.uploads_a2l ≡ false → slice_index packet.items 0 ≡ 0xC0 → Answers v (requests.Command packet) a w → Unknown v a w
version-unknown v w packet a off e h =
    let c : Command = commands.GetVersion (record { items = drop 1 packet.items }) in
    taken v.connected (Executes c v a w) (Ignores v a w) _
    (λ on m. let r = refuses-unknown c v w a (version-refused v (record { items = drop 1 packet.items }) off) m in inl (on, r.0, r.1))
    (λ on m. inr (on, m.0, m.1))
    (heeded v w packet c a (spelt-version (layout_of v).order packet.items e) h)

multiple-unknown : (v w : SlaveValue) (packet : ArrayVec ℕ) (a : Answer) → (layout_of v).extras.uploads_a2l ≡ false → slice_index packet.items 0 ≡ 0xC7 → Answers v (requests.Command packet) a w → Unknown v a w
multiple-unknown v w packet a off e h =
    let c : Command = commands.WriteDaqMultiple (record { items = drop 1 packet.items }) in
    taken v.connected (Executes c v a w) (Ignores v a w) _
    (λ on m. let r = refuses-unknown c v w a (multiple-refused v (record { items = drop 1 packet.items }) off) m in inl (on, r.0, r.1))
    (λ on m. inr (on, m.0, m.1))
    (heeded v w packet c a (spelt-multiple (layout_of v).order packet.items e) h)

pub commands-unknown : (v w : SlaveValue) (packet : ArrayVec ℕ) (a : Answer) → (layout_of v).extras.uploads_a2l ≡ false → (slice_index packet.items 0 ≡ 0xC0) ⊎ (slice_index packet.items 0 ≡ 0xC7) → Answers v (requests.Command packet) a w → ((v.connected ≡ true) × (a ≡ answers.Packets ((0xFE ∷ 0x20 ∷ []) ∷ [])) × (w ≡ noblock v)) ⊎ ((v.connected ≡ false) × (a ≡ answers.Silent) × (w ≡ v))
commands-unknown v w packet a off (inl e) h = version-unknown v w packet a off e h
commands-unknown v w packet a off (inr e) h = multiple-unknown v w packet a off e h

told-unknown : (v w : SlaveValue) (a : Answer) → Unknown v a w → IsUnknown a
told-unknown v w a (inl p) = inr p.1
told-unknown v w a (inr p) = inl p.1

-- GET_ID of another kind than 0

no-text : (v w : SlaveValue) (kind : ℕ) (a : Answer) → IsPlain (layout_of v) → kind ≢ 0 → Executes (commands.GetId kind) v a w → IsNoText (layout_of v).order a
no-text v w kind a plain other m =
    inr (replied (commands.GetId kind) v w a refl m
    ∙ ap (λ (o : Option TextId). answer_of (layout_of v) (Some (replies.Id (text_length (layout_of v) o)))) (plain-texts (layout_of v) kind plain other))

id-plain : (v w : SlaveValue) (packet : ArrayVec ℕ) (a : Answer) → IsPlain (layout_of v) → 2 ≤ length packet.items → slice_index packet.items 0 ≡ 0xFA → slice_index packet.items 1 ≢ 0 → Answers v (requests.Command packet) a w → IsNoText (layout_of v).order a
id-plain v w packet a plain two e other h =
    let c : Command = commands.GetId (slice_index packet.items 1) in
    taken v.connected (Executes c v a w) (Ignores v a w) _
    (λ on m. no-text v w (slice_index packet.items 1) a plain other m)
    (λ on m. inl m.0)
    (heeded v w packet c a (spelt-id (layout_of v).order packet.items two e) h)

-- Packets that wait

no-loss : (l : LayoutValue) (p : ArrayVec ℕ) → (p ≡ store_event) ⊎ IsDataPacket l p → p.items ≢ 0xFD ∷ 0x06 ∷ []
no-loss l p (inl e) = λ h. (let both : 0xFD ∷ 0x03 ∷ [] ≡ 0xFD ∷ 0x06 ∷ [] = sym (ap (λ (x : ArrayVec ℕ). x.items) e) ∙ h in cc)
no-loss l p (inr d) = λ h. (let first : slice_index p.items 0 ≡ 0xFD = ap (λ (xs : List ℕ). slice_index xs 0) h in let below = d.pid in omega (arith, first, below, few-odts l.class))

drains-plain : (l : LayoutValue) (o : List (ArrayVec ℕ)) (v : SlaveValue) (a : Answer) (w : SlaveValue) → All (λ (p : ArrayVec ℕ). (p ≡ store_event) ⊎ IsDataPacket l p) o → Drains o v a w → a ≢ answers.Packets ((0xFD ∷ 0x06 ∷ []) ∷ [])
drains-plain l [] v a w all k = λ e. (let both : ◌≡◌ {A = Answer} answers.Nothing (answers.Packets ((0xFD ∷ 0x06 ∷ []) ∷ [])) = sym k.0 ∙ e in cc)
drains-plain l (p ∷ rest) v a w all k = λ e. no-loss l p (All-head (λ (x : ArrayVec ℕ). (x ≡ store_event) ⊎ IsDataPacket l x) p rest all) (ap first_of (ap packets_told (sym k.0 ∙ e)))

-- steps and runs

no-overload : (l : LayoutValue) → IsPlain l → l.extras.tells_overload ≡ false
no-overload l plain = ap (λ (e : ExtrasValue). e.tells_overload) plain

no-uploads : (l : LayoutValue) → IsPlain l → l.extras.uploads_a2l ≡ false
no-uploads l plain = ap (λ (e : ExtrasValue). e.uploads_a2l) plain

pub step-plain : (v : SlaveValue) (q : Request) (a : Answer) (w : SlaveValue) → IsSlave v → IsPlain (layout_of v) → Answers v q a w → HasNothingNew (layout_of v).order q a
step-plain v (requests.Command packet) a w s plain h = record {
  version = λ e. told-unknown v w a (version-unknown v w packet a (no-uploads (layout_of v) plain) e h);
  multiple = λ e. told-unknown v w a (multiple-unknown v w packet a (no-uploads (layout_of v) plain) e h);
  id = λ two e other. id-plain v w packet a plain two e other h;
}
step-plain v (requests.Event channel signals) a w s plain h = tt
step-plain v requests.Drain a w s plain h = drains-plain (layout_of v) v.outbox v a w (waiting-unasked v s (no-overload (layout_of v) plain)) h
step-plain v requests.FinishStore a w s plain h = tt
step-plain v requests.Hangup a w s plain h = tt
step-plain v (requests.Time time) a w s plain h = tt
step-plain v (requests.Signals place bytes) a w s plain h = tt

-- an exchange of a slave with this layout
abbrev IsOld : LayoutValue → Exchange → Type 0
IsOld l x = HasNothingNew l.order x.request x.answer

abbrev has-bytes : Exchange → Type 0
has-bytes x = IsOfBytes x.request

runs-plain : (l : LayoutValue) (v : SlaveValue) (xs : List Exchange) (w : SlaveValue) → IsSlave v → layout_of v ≡ l → IsPlain l → All has-bytes xs → Run v xs w → All (IsOld l) xs
runs-plain l v [] w s same plain b r = All-nil (IsOld l)
runs-plain l v (x ∷ xs) w s same plain b r =
    let one = step-plain v x.request x.answer r.0 s (subst IsPlain (sym same) plain) r.1 in
    let next = answers-kept v x.request x.answer r.0 (All-head has-bytes x xs b) s r.1 in
    All-cons (IsOld l) x xs
    (subst (λ (k : LayoutValue). IsOld k x) same one)
    (runs-plain l r.0 xs w next (answers-layout v x.request x.answer r.0 r.1 ∙ same) plain (All-tail has-bytes x xs b) r.2)

pub run-plain : (l : LayoutValue) (xs : List Exchange) (w : SlaveValue) → IsLayout l → IsPlain l → All (λ (x : Exchange). IsOfBytes x.request) xs → Run (opening l) xs w → All (λ (x : Exchange). HasNothingNew l.order x.request x.answer) xs
run-plain l xs w lawful plain b r = runs-plain l (opening l) xs w (opening-slave l lawful) refl plain b r
