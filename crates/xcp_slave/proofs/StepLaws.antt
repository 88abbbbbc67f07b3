-- For each slave and each request there is one answer and one slave after it.
use Rattle.std.proofs.Common.{◌≡◌, ℕ, ◌+◌, Bool, true, false, List, [], ◌∷◌, length, ◌==◌, ◌&&◌, nat_le, nat_lt, refl, sym, ap, ◌∙◌, subst, Option, Some, None, Result, Ok, Err, ◌||◌}
use Rattle.std.specs.Prelude.{MatchBool}
use Rattle.std.proofs.lemmas.Option.{none-some}
use Rattle.xcp_packet.proofs.DecodingLaws.{decodes_once, decodes_total}
use Rattle.xcp_memory.specs.Layout.{LayoutValue}
use Rattle.xcp_memory.specs.Signals.{takes_signals}
use Rattle.xcp_packet.specs.declared.Command.{Command}
use Rattle.xcp_packet.specs.declared.Refuse.{Refuse}
use Rattle.xcp_packet.specs.declared.Refuse.TheVariants as refuses
use Rattle.xcp_packet.specs.declared.Reply.{Reply}
use Rattle.xcp_packet.specs.declared.Reply.TheVariants as replies
use Rattle.xcp_packet.specs.declared.Code.{Code}
use Rattle.xcp_packet.specs.declared.Code.TheVariants.{CmdUnknown, CmdSyntax}
use Rattle.arrayvec.specs.ArrayVec.{ArrayVec}
use Rattle.xcp_memory.specs.Freeze.{frozen_count}
use Rattle.xcp_daq.specs.Sample.{sampled}
use Rattle.xcp_packet.specs.Rows.{Row, Meets, first_holding}
use Rattle.xcp_slave.specs.declared.request.Request.{Request}
use Rattle.xcp_slave.specs.declared.request.Request.TheVariants as requests
use Rattle.xcp_slave.specs.Outcomes.{Answer}
use Rattle.xcp_slave.specs.declared.outcome.Outcome.TheVariants as answers
use Rattle.xcp_slave.specs.SlaveValue.{SlaveValue, layout_of, noblock, ended}
use Rattle.xcp_slave.specs.Rows.{row}
use Rattle.xcp_slave.specs.Step.{Answers, Heeds, Executes, Ignores, Refuses, Drains, Stores, Samples, Fires, outbox_size, stored, with_loss, with_overload, with_sample, with_signals, answer_of, sent_reply, found_by, is_connect, at_time, Hands, with_part}

-- whichever way a test goes
pub either : (t : Bool) (P Q R : Type 0) → MatchBool t P Q → (P → R) → (Q → R) → R
either true P Q R h p q = p h
either false P Q R h p q = q h

-- the same for two statements that one test decides
pub both : (t : Bool) (P Q S T R : Type 0) → MatchBool t P Q → MatchBool t S T → (P → S → R) → (Q → T → R) → R
both true P Q S T R h k p q = p h k
both false P Q S T R h k p q = q h k

one_of : (t : Bool) (P Q : Answer → SlaveValue → Type 0) → ((a : Answer) × (w : SlaveValue) × P a w) → ((a : Answer) × (w : SlaveValue) × Q a w) → (a : Answer) × (w : SlaveValue) × MatchBool t (P a w) (Q a w)
one_of true P Q p q = p
one_of false P Q p q = q

-- a row has one outcome
meets-single : (r : Row SlaveValue) (left : SlaveValue) (x y : Result (Option Reply) Reply) (w u : SlaveValue) → Meets r left x w → Meets r left y u → (x ≡ y) × (w ≡ u)
meets-single r left (Ok x) (Ok y) w u h k = (ap Ok (h.1 ∙ sym k.1), h.2 ∙ sym k.2)
meets-single r left (Ok x) (Err e) w u h k = absurd (none-some e (sym h.0 ∙ k.0))
meets-single r left (Err e) (Ok x) w u h k = absurd (none-some e (sym k.0 ∙ h.0))
meets-single r left (Err e) (Err f) w u h k = let g : Some e ≡ Some f = sym h.0 ∙ k.0 in (cc, h.1 ∙ sym k.1)

meets-some : (r : Row SlaveValue) (left : SlaveValue) (o : Option Reply) → first_holding r.refusals ≡ o → (x : Result (Option Reply) Reply) × (w : SlaveValue) × Meets r left x w
meets-some r left None h = (Ok r.reply, r.after, (h, refl, refl))
meets-some r left (Some e) h = (Err e, left, (h, refl))

sent : LayoutValue → Result (Option Reply) Reply → Answer
sent l r = answer_of l (sent_reply r)

executes-single : (c : Command) (v : SlaveValue) (a b : Answer) (w u : SlaveValue) → Executes c v a w → Executes c v b u → (a ≡ b) × (w ≡ u)
unfolding sent
executes-single c v a b w u h k =
    let e = meets-single (row c (found_by c v)) (noblock v) h.0 k.0 w u h.1 k.1 in
    (h.2 ∙ ap (sent (layout_of v)) e.0 ∙ sym k.2, e.1)

executes-some : (c : Command) (v : SlaveValue) → (a : Answer) × (w : SlaveValue) × Executes c v a w
executes-some c v =
    let r = meets-some (row c (found_by c v)) (noblock v) (first_holding (row c (found_by c v)).refusals) refl in
    (answer_of (layout_of v) (sent_reply r.0), r.1, (r.0, r.2, refl))

ignores-single : (v : SlaveValue) (a b : Answer) (w u : SlaveValue) → Ignores v a w → Ignores v b u → (a ≡ b) × (w ≡ u)
ignores-single v a b w u h k = (h.0 ∙ sym k.0, h.1 ∙ sym k.1)

refuses-single : (v : SlaveValue) (e : Code) (a b : Answer) (w u : SlaveValue) → Refuses v e a w → Refuses v e b u → (a ≡ b) × (w ≡ u)
refuses-single v e a b w u h k = (h.0 ∙ sym k.0, h.1 ∙ sym k.1)

ignores-some : (v : SlaveValue) → (a : Answer) × (w : SlaveValue) × Ignores v a w
ignores-some v = (answers.Silent, v, (refl, refl))

refuses-some : (v : SlaveValue) (e : Code) → (a : Answer) × (w : SlaveValue) × Refuses v e a w
refuses-some v e = (answer_of (layout_of v) (Some (replies.Error e)), noblock v, (refl, refl))

heeds-single : (v : SlaveValue) (d : Result Command Refuse) (a b : Answer) (w u : SlaveValue) → Heeds v d a w → Heeds v d b u → (a ≡ b) × (w ≡ u)
heeds-single v (Ok c) a b w u h k = both (v.connected || is_connect c) _ _ _ _ _ h k (executes-single c v a b w u) (ignores-single v a b w u)
heeds-single v (Err refuses.Empty) a b w u h k = ignores-single v a b w u h k
heeds-single v (Err refuses.Unknown) a b w u h k = both v.connected _ _ _ _ _ h k (refuses-single v CmdUnknown a b w u) (ignores-single v a b w u)
heeds-single v (Err refuses.Short) a b w u h k = both v.connected _ _ _ _ _ h k (refuses-single v CmdSyntax a b w u) (ignores-single v a b w u)

heeds-some : (v : SlaveValue) (d : Result Command Refuse) → (a : Answer) × (w : SlaveValue) × Heeds v d a w
heeds-some v (Ok c) = one_of (v.connected || is_connect c) (Executes c v) (Ignores v) (executes-some c v) (ignores-some v)
heeds-some v (Err refuses.Empty) = ignores-some v
heeds-some v (Err refuses.Unknown) = one_of v.connected (Refuses v CmdUnknown) (Ignores v) (refuses-some v CmdUnknown) (ignores-some v)
heeds-some v (Err refuses.Short) = one_of v.connected (Refuses v CmdSyntax) (Ignores v) (refuses-some v CmdSyntax) (ignores-some v)

-- what one of two ways of answering settles
settled : (x : Answer) (y : SlaveValue) (a b : Answer) (w u : SlaveValue) → (a ≡ x) × (w ≡ y) → (b ≡ x) × (u ≡ y) → (a ≡ b) × (w ≡ u)
settled x y a b w u h k = (h.0 ∙ sym k.0, h.1 ∙ sym k.1)

drains-single : (o : List (ArrayVec ℕ)) (v : SlaveValue) (a b : Answer) (w u : SlaveValue) → Drains o v a w → Drains o v b u → (a ≡ b) × (w ≡ u)
drains-single [] v a b w u h k = settled answers.Nothing v a b w u h k
drains-single (packet ∷ rest) v a b w u h k = settled (answers.Packets (packet.items ∷ [])) (record v { outbox = rest }) a b w u h k

drains-some : (o : List (ArrayVec ℕ)) (v : SlaveValue) → (a : Answer) × (w : SlaveValue) × Drains o v a w
drains-some [] v = (answers.Nothing, v, (refl, refl))
drains-some (packet ∷ rest) v = (answers.Packets (packet.items ∷ []), record v { outbox = rest }, (refl, refl))

stores-single : (v : SlaveValue) (a b : Answer) (w u : SlaveValue) → Stores v a w → Stores v b u → (a ≡ b) × (w ≡ u)
stores-single v a b w u h k = both (v.connected && nat_le (outbox_size v) (length v.outbox)) _ _ _ _ _ h k (settled answers.Later v a b w u) (settled (answers.Stored (frozen_count v.transfer.pages)) (stored v) a b w u)

stores-some : (v : SlaveValue) → (a : Answer) × (w : SlaveValue) × Stores v a w
stores-some v =
    one_of (v.connected && nat_le (outbox_size v) (length v.outbox)) (λ a w. (a ≡ answers.Later) × (w ≡ v)) (λ a w. (a ≡ answers.Stored (frozen_count v.transfer.pages)) × (w ≡ stored v))
    (answers.Later, v, (refl, refl))
    (answers.Stored (frozen_count v.transfer.pages), stored v, (refl, refl))

samples-single : (channel : ℕ) (packets : List (ArrayVec ℕ)) (v : SlaveValue) (a b : Answer) (w u : SlaveValue) → Samples channel packets v a w → Samples channel packets v b u → (a ≡ b) × (w ≡ u)
samples-single channel packets v a b w u h k =
    both (nat_le (length v.outbox + length (with_overload (outbox_size v) v.overloaded packets)) (outbox_size v)) _ _ _ _ _ h k (settled (answers.Sampled (length (with_overload (outbox_size v) v.overloaded packets))) (with_sample channel packets v) a b w u) (settled answers.Overrun (with_loss channel v) a b w u)

samples-some : (channel : ℕ) (packets : List (ArrayVec ℕ)) (v : SlaveValue) → (a : Answer) × (w : SlaveValue) × Samples channel packets v a w
samples-some channel packets v =
    one_of (nat_le (length v.outbox + length (with_overload (outbox_size v) v.overloaded packets)) (outbox_size v)) (λ a w. (a ≡ answers.Sampled (length (with_overload (outbox_size v) v.overloaded packets))) × (w ≡ with_sample channel packets v)) (λ a w. (a ≡ answers.Overrun) × (w ≡ with_loss channel v))
    (answers.Sampled (length (with_overload (outbox_size v) v.overloaded packets)), with_sample channel packets v, (refl, refl))
    (answers.Overrun, with_loss channel v, (refl, refl))

-- signals that are handed over leave each part that they aren't
pub hands-part : {A : Type 0} (f : SlaveValue → A) (place : ℕ) (bytes : List ℕ) (v : SlaveValue) (a : Answer) (w : SlaveValue) → f (with_part place bytes v) ≡ f v → Hands place bytes v a w → f w ≡ f v
hands-part f place bytes v a w h k = either (nat_le (place + length bytes) (layout_of v).signals_length) _ _ _ k (λ m. ap f m.1 ∙ h) (λ m. ap f m.1)

-- the sample of an event with its signals in place
abbrev event_packets : ℕ → List ℕ → SlaveValue → List (ArrayVec ℕ)
event_packets channel signals v = sampled channel v.time (with_signals signals v).transfer.pages v.daq

fires-single : (channel : ℕ) (signals : List ℕ) (v : SlaveValue) (a b : Answer) (w u : SlaveValue) → Fires channel signals v a w → Fires channel signals v b u → (a ≡ b) × (w ≡ u)
fires-single channel signals v a b w u h k =
    both (nat_lt channel (length (layout_of v).events)) _ _ _ _ _ h k
    (λ h k. both (takes_signals (layout_of v) (length signals)) _ _ _ _ _ h k (samples-single channel (event_packets channel signals v) (with_signals signals v) a b w u) (settled answers.BadSignals v a b w u))
    (settled answers.NoChannel v a b w u)

fires-some : (channel : ℕ) (signals : List ℕ) (v : SlaveValue) → (a : Answer) × (w : SlaveValue) × Fires channel signals v a w
fires-some channel signals v =
    one_of (nat_lt channel (length (layout_of v).events))
    (λ a w. MatchBool (takes_signals (layout_of v) (length signals)) (Samples channel (event_packets channel signals v) (with_signals signals v) a w) ((a ≡ answers.BadSignals) × (w ≡ v)))
    (λ a w. (a ≡ answers.NoChannel) × (w ≡ v))
    (one_of (takes_signals (layout_of v) (length signals)) (Samples channel (event_packets channel signals v) (with_signals signals v)) (λ a w. (a ≡ answers.BadSignals) × (w ≡ v))
    (samples-some channel (event_packets channel signals v) (with_signals signals v))
    (answers.BadSignals, v, (refl, refl)))
    (answers.NoChannel, v, (refl, refl))

-- for each slave and each request there is at most one answer and one slave after it
pub answers-single : (v : SlaveValue) (q : Request) (a b : Answer) (w u : SlaveValue) → Answers v q a w → Answers v q b u → (a ≡ b) × (w ≡ u)
answers-single v (requests.Command p) a b w u h k =
    let s = decodes_once (layout_of v).order p.items k.0 h.0 k.1 h.1 in
    heeds-single v h.0 a b w u h.2 (subst (λ (d : Result Command Refuse). Heeds v d b u) s k.2)
answers-single v (requests.Event channel signals) a b w u h k = fires-single channel signals.items v a b w u h k
answers-single v requests.Drain a b w u h k = drains-single v.outbox v a b w u h k
answers-single v requests.FinishStore a b w u h k = both v.store _ _ _ _ _ h k (stores-single v a b w u) (settled answers.NoStore v a b w u)
answers-single v requests.Hangup a b w u h k = settled answers.Silent (ended v) a b w u h k
answers-single v (requests.Time time) a b w u h k = settled answers.Silent (at_time time v) a b w u h k
answers-single v (requests.Signals place bytes) a b w u h k =
    both (nat_le (place + length bytes.items) (layout_of v).signals_length) _ _ _ _ _ h k (settled answers.Silent (with_part place bytes.items v) a b w u) (settled answers.BadSignals v a b w u)

-- and there are an answer and a slave after it
pub answers-some : (v : SlaveValue) (q : Request) → (a : Answer) × (w : SlaveValue) × Answers v q a w
answers-some v (requests.Command p) =
    let d = decodes_total (layout_of v).order p.items in
    let r = heeds-some v d.0 in
    (r.0, r.1, (d.0, d.1, r.2))
answers-some v (requests.Event channel signals) = fires-some channel signals.items v
answers-some v requests.Drain = drains-some v.outbox v
answers-some v requests.FinishStore = one_of v.store (Stores v) (λ a w. (a ≡ answers.NoStore) × (w ≡ v)) (stores-some v) (answers.NoStore, v, (refl, refl))
answers-some v requests.Hangup = (answers.Silent, ended v, (refl, refl))
answers-some v (requests.Time time) = (answers.Silent, at_time time v, (refl, refl))
answers-some v (requests.Signals place bytes) =
    one_of (nat_le (place + length bytes.items) (layout_of v).signals_length) (λ a w. (a ≡ answers.Silent) × (w ≡ with_part place bytes.items v)) (λ a w. (a ≡ answers.BadSignals) × (w ≡ v))
    (answers.Silent, with_part place bytes.items v, (refl, refl)) (answers.BadSignals, v, (refl, refl))
