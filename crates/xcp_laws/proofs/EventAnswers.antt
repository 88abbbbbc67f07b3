-- What an event is refused for, and which texts are uploaded.
use Rattle.std.proofs.Common.{◌≡◌, ◌≢◌, ℕ, ◌+◌, ◌<◌, ◌≤◌, Bool, true, false, List, ◌∷◌, drop, get_or, length, take, Option, Some, None, refl, ap, sym, ◌∙◌, nat_le, nat_lt, arith, inl, inr, ◌++◌, length-append, append_assoc}
use Rattle.std.specs.Prelude.{◌⊎◌, ◌==◌, MatchBool, if◌then◌else◌}
use Rattle.std.proofs.lemmas.Bool.Decides.{nat_tests}
use Rattle.std.proofs.Math.Seq.{take-append_seam, drop-append_seam}
use Rattle.std.proofs.lemmas.List.{append-nil, drop_all, length-take-le, take_all}
use Rattle.arrayvec.specs.ArrayVec.{ArrayVec}
use Rattle.xcp_packet.specs.ByteOrder.{double_bytes}
use Rattle.xcp_packet.specs.declared.Command.TheVariants as commands
use Rattle.xcp_memory.specs.Layout.{LayoutValue, IsPlain, no_event, epk, description}
use Rattle.xcp_memory.specs.Signals.{may_take, takes_signals}
use Rattle.xcp_memory.specs.declared.Class.{Class}
use Rattle.xcp_memory.specs.declared.Class.TheVariants.{Large, Papers}
use Rattle.xcp_transfer.specs.declared.Mta.{Mta}
use Rattle.xcp_transfer.specs.declared.Mta.TheVariants.{Text}
use Rattle.xcp_transfer.specs.declared.TextId.{TextId}
use Rattle.xcp_transfer.specs.declared.TextId.TheVariants.{Id, Name, A2lName, A2lFile, Epk}
use Rattle.xcp_transfer.specs.TransferValue.{text_of}
use Rattle.xcp_transfer.specs.Uploads.{text_length, text_of_kind, text_start, with_bytes}
use Rattle.xcp_slave.specs.AcceptedCommands.{Accepts}
use Rattle.xcp_slave.specs.Outcomes.{Answer}
use Rattle.xcp_slave.specs.SlaveValue.{SlaveValue, layout_of}
use Rattle.xcp_slave.specs.SlaveInvariant.{IsSlave}
use Rattle.xcp_slave.specs.Step.{Answers, outbox_size, with_overload, with_part}
use Rattle.xcp_slave.specs.PacketQueue.{event_packets}
use Rattle.xcp_slave.specs.declared.Outcome.TheVariants as answers
use Rattle.xcp_slave.specs.declared.Request.TheVariants as requests
use Rattle.xcp_slave.proofs.AcceptedCommandLaws.{accepted, event-mta, id-mta, upload-text-reads}
use Rattle.xcp_slave.proofs.StepLaws.{either}
use Rattle.xcp_slave.proofs.UnaffectedPartLaws.{plain-texts}
use Rattle.xcp_laws.proofs.FirstRefusals.{first_case}
use Rattle.xcp_laws.proofs.PositiveAnswers.{is-it, isnt}
use Rattle.xcp_laws.proofs.ToldValues.{bytes-told}

-- a test that doesn't hold has its second case
pub other_case : (t : Bool) (P Q : Type 0) → t ≡ false → MatchBool t P Q → Q
other_case true P Q e h = cc
other_case false P Q e h = h

pub event-nowhere : (v w : SlaveValue) (channel : ℕ) (signals : ArrayVec ℕ) (a : Answer) → length (layout_of v).events ≤ channel → Answers v (requests.Event channel signals) a w → (a ≡ answers.NoChannel) × (w ≡ v)
event-nowhere v w channel signals a p h = other_case (nat_lt channel (length (layout_of v).events)) _ _ (grind (arith, nat_tests, p)) h

-- three lists one behind another, and each of them again
part-front : (xs ys zs : List ℕ) (n : ℕ) → length xs ≡ n → take n ((xs ++ ys) ++ zs) ≡ xs
part-front xs ys zs n e = rw (sym e) (ap (λ (ws : List ℕ). take (length xs) ws) (append_assoc xs ys zs) ∙ take-append_seam xs (ys ++ zs))

part-middle : (xs ys zs : List ℕ) (n : ℕ) → length xs ≡ n → take (length ys) (drop n ((xs ++ ys) ++ zs)) ≡ ys
part-middle xs ys zs n e = rw (sym e) (ap (λ (ws : List ℕ). take (length ys) (drop (length xs) ws)) (append_assoc xs ys zs) ∙ ap (λ (ws : List ℕ). take (length ys) ws) (drop-append_seam xs (ys ++ zs)) ∙ take-append_seam ys zs)

part-back : (xs zs : List ℕ) (n : ℕ) → length xs ≡ n → drop n (xs ++ zs) ≡ zs
part-back xs zs n e = rw (sym e) (drop-append_seam xs zs)

-- how many bytes an event takes, by the layout's class
taken-papers : (c : Class) (n size : ℕ) → c ≡ Papers → n ≢ size → may_take c n size ≡ false
taken-papers Papers n size e q = (isnt n size).1 q
taken-papers Large n size e q = cc

taken-large : (c : Class) (n size : ℕ) → c ≡ Large → size < n → may_take c n size ≡ false
taken-large Papers n size e q = cc
taken-large Large n size e q = grind (arith, nat_tests, q)

taken-part : (c : Class) (n size : ℕ) → c ≡ Large → n ≤ size → may_take c n size ≡ true
taken-part Papers n size e q = cc
taken-part Large n size e q = grind (arith, nat_tests, q)

taken-whole : (c : Class) (n size : ℕ) → n ≡ size → may_take c n size ≡ true
taken-whole Papers n size q = (is-it n size).1 q
taken-whole Large n size q = grind (arith, nat_tests, q)

untaken : (v w : SlaveValue) (channel : ℕ) (signals : ArrayVec ℕ) (a : Answer) → channel < length (layout_of v).events → takes_signals (layout_of v) (length signals.items) ≡ false → Answers v (requests.Event channel signals) a w → (a ≡ answers.BadSignals) × (w ≡ v)
untaken v w channel signals a p q h =
    let here = first_case (nat_lt channel (length (layout_of v).events)) _ _ (grind (arith, nat_tests, p)) h in
    other_case (takes_signals (layout_of v) (length signals.items)) _ _ q here

pub event-unsized : (v w : SlaveValue) (channel : ℕ) (signals : ArrayVec ℕ) (a : Answer) → channel < length (layout_of v).events → (layout_of v).class ≡ Papers → length signals.items ≢ (layout_of v).signals_length → Answers v (requests.Event channel signals) a w → (a ≡ answers.BadSignals) × (w ≡ v)
event-unsized v w channel signals a p e q h = untaken v w channel signals a p (taken-papers (layout_of v).class (length signals.items) (layout_of v).signals_length e q) h

pub event-long : (v w : SlaveValue) (channel : ℕ) (signals : ArrayVec ℕ) (a : Answer) → channel < length (layout_of v).events → (layout_of v).class ≡ Large → (layout_of v).signals_length < length signals.items → Answers v (requests.Event channel signals) a w → (a ≡ answers.BadSignals) × (w ≡ v)
event-long v w channel signals a p e q h = untaken v w channel signals a p (taken-large (layout_of v).class (length signals.items) (layout_of v).signals_length e q) h

-- an event that is taken has its bytes first in the signals area, and leaves the others
IsTaken : SlaveValue → ArrayVec ℕ → Answer → SlaveValue → Type 0
IsTaken v signals a w = ((a ≡ answers.Overrun) ⊎ ((n : ℕ) × (a ≡ answers.Sampled n))) × (w.transfer.pages.signals ≡ signals.items ++ drop (length signals.items) v.transfer.pages.signals)

event-sized : (v w : SlaveValue) (channel : ℕ) (signals : ArrayVec ℕ) (a : Answer) → channel < length (layout_of v).events → takes_signals (layout_of v) (length signals.items) ≡ true → Answers v (requests.Event channel signals) a w → IsTaken v signals a w
unfolding IsTaken
event-sized v w channel signals a p q h =
    let here = first_case (nat_lt channel (length (layout_of v).events)) _ _ (grind (arith, nat_tests, p)) h in
    let sized = first_case (takes_signals (layout_of v) (length signals.items)) _ _ q here in
    let none : 0 + length signals.items ≡ length signals.items = omega arith in
    let behind = ap (λ (n : ℕ). signals.items ++ drop n v.transfer.pages.signals) none in
    either (nat_le (length v.outbox + length (with_overload (outbox_size v) v.overloaded (event_packets v channel signals.items))) (outbox_size v)) _ _ _ sized
    (λ m. (inr (_, m.0), ap (λ (x : SlaveValue). x.transfer.pages.signals) m.1 ∙ behind))
    (λ m. (inl m.0, ap (λ (x : SlaveValue). x.transfer.pages.signals) m.1 ∙ behind))

pub event-part : (v w : SlaveValue) (channel : ℕ) (signals : ArrayVec ℕ) (a : Answer) → channel < length (layout_of v).events → (layout_of v).class ≡ Large → length signals.items ≤ (layout_of v).signals_length → Answers v (requests.Event channel signals) a w → ((a ≡ answers.Overrun) ⊎ ((n : ℕ) × (a ≡ answers.Sampled n))) × (w.transfer.pages.signals ≡ signals.items ++ drop (length signals.items) v.transfer.pages.signals)
unfolding IsTaken
event-part v w channel signals a p e q h = event-sized v w channel signals a p (taken-part (layout_of v).class (length signals.items) (layout_of v).signals_length e q) h

whole-drop : (xs ys : List ℕ) → length ys ≡ length xs → xs ++ drop (length xs) ys ≡ xs
whole-drop xs ys e = ap (λ (zs : List ℕ). xs ++ zs) (drop_all (length xs) ys (omega (arith, e))) ∙ append-nil xs

pub event-taken : (v w : SlaveValue) (channel : ℕ) (signals : ArrayVec ℕ) (a : Answer) → IsSlave v → channel < length (layout_of v).events → length signals.items ≡ (layout_of v).signals_length → Answers v (requests.Event channel signals) a w → ((a ≡ answers.Overrun) ⊎ ((n : ℕ) × (a ≡ answers.Sampled n))) × (w.transfer.pages.signals ≡ signals.items)
unfolding IsTaken
event-taken v w channel signals a s p q h =
    let t = event-sized v w channel signals a p (taken-whole (layout_of v).class (length signals.items) (layout_of v).signals_length q) h in
    (t.0, t.1 ∙ whole-drop signals.items v.transfer.pages.signals (s.transfer.pages.signals ∙ sym q))

-- signals that are handed over by themselves

pub part-taken : (v w : SlaveValue) (place : ℕ) (bytes : ArrayVec ℕ) (a : Answer) → place + length bytes.items ≤ (layout_of v).signals_length → Answers v (requests.Signals place bytes) a w → (a ≡ answers.Silent) × (w ≡ with_part place bytes.items v)
part-taken v w place bytes a p h = first_case (nat_le (place + length bytes.items) (layout_of v).signals_length) _ _ (grind (arith, nat_tests, p)) h

pub part-outside : (v w : SlaveValue) (place : ℕ) (bytes : ArrayVec ℕ) (a : Answer) → (layout_of v).signals_length < place + length bytes.items → Answers v (requests.Signals place bytes) a w → (a ≡ answers.BadSignals) × (w ≡ v)
part-outside v w place bytes a p h = other_case (nat_le (place + length bytes.items) (layout_of v).signals_length) _ _ (grind (arith, nat_tests, p)) h

pub part-kept : (v : SlaveValue) (place : ℕ) (bytes : List ℕ) → IsSlave v → place + length bytes ≤ (layout_of v).signals_length
    → (take (length bytes) (drop place (with_part place bytes v).transfer.pages.signals) ≡ bytes)
    × (take place (with_part place bytes v).transfer.pages.signals ≡ take place v.transfer.pages.signals)
    × (drop (place + length bytes) (with_part place bytes v).transfer.pages.signals ≡ drop (place + length bytes) v.transfer.pages.signals)
part-kept v place bytes s fits =
    let old : List ℕ = v.transfer.pages.signals in
    let long : place + length bytes ≤ length old = (let e = s.transfer.pages.signals in omega (arith, fits, e)) in
    let front : length (take place old) ≡ place = length-take-le place old (omega (arith, long)) in
    let both : length (take place old ++ bytes) ≡ place + length bytes = length-append (take place old) bytes ∙ ap (λ (n : ℕ). n + length bytes) front in (
      part-middle (take place old) bytes (drop (place + length bytes) old) place front,
      part-front (take place old) bytes (drop (place + length bytes) old) place front,
      part-back (take place old ++ bytes) (drop (place + length bytes) old) (place + length bytes) both,
    )

-- texts

pub name-uploaded : (v w : SlaveValue) (channel place n : ℕ) (bytes : List ℕ) → v.transfer.mta ≡ Text (Name channel) place → Accepts v (commands.Upload n) bytes w → (place + n ≤ length (get_or (layout_of v).events channel no_event).name) × (bytes ≡ take n (drop place (get_or (layout_of v).events channel no_event).name))
name-uploaded v w channel place n bytes e h = upload-text-reads v w n place (Name channel) bytes e h

pub id-uploaded : (v w : SlaveValue) (place n : ℕ) (bytes : List ℕ) → v.transfer.mta ≡ Text Id place → Accepts v (commands.Upload n) bytes w → (place + n ≤ length (layout_of v).id) × (bytes ≡ take n (drop place (layout_of v).id))
id-uploaded v w place n bytes e h = upload-text-reads v w n place Id bytes e h

-- a whole text
whole-text : (v m w : SlaveValue) (id : TextId) (bytes : List ℕ) → layout_of m ≡ layout_of v → m.transfer.mta ≡ Text id 0 → Accepts m (commands.Upload (length (text_of (layout_of v) id))) bytes w → bytes ≡ text_of (layout_of v) id
whole-text v m w id bytes same e h =
    let long : ℕ = length (text_of (layout_of v) id) in
    let got = (upload-text-reads m w long 0 id bytes e h).1 in
    got ∙ ap (λ (l : LayoutValue). take long (text_of l id)) same ∙ take_all long (text_of (layout_of v) id) (omega arith)

pub whole-name : (v m w : SlaveValue) (channel : ℕ) (told bytes : List ℕ) → Accepts v (commands.GetDaqEventInfo channel) told m → Accepts m (commands.Upload (length (get_or (layout_of v).events channel no_event).name)) bytes w → bytes ≡ (get_or (layout_of v).events channel no_event).name
whole-name v m w channel told bytes k h =
    whole-text v m w (Name channel) bytes (ap layout_of (accepted (commands.GetDaqEventInfo channel) v told m k).after) (event-mta v m channel told k) h

pub whole-id : (v m w : SlaveValue) (told bytes : List ℕ) → Accepts v (commands.GetId 0) told m → Accepts m (commands.Upload (length (layout_of v).id)) bytes w → bytes ≡ (layout_of v).id
whole-id v m w told bytes k h =
    whole-text v m w Id bytes (ap layout_of (accepted (commands.GetId 0) v told m k).after) (id-mta v m told k) h

pub id-told : (v w : SlaveValue) (bytes : List ℕ) → Accepts v (commands.GetId 0) bytes w → bytes ≡ 0 ∷ 0 ∷ 0 ∷ double_bytes (layout_of v).order (length (layout_of v).id)
id-told v w bytes h = bytes-told (commands.GetId 0) v bytes w h

-- what GET_ID tells of a text
told-of : SlaveValue → Option TextId → List ℕ
told-of v id = 0 ∷ 0 ∷ 0 ∷ double_bytes (layout_of v).order (text_length (layout_of v) id)

kind-told : (v w : SlaveValue) (kind : ℕ) (bytes : List ℕ) → Accepts v (commands.GetId kind) bytes w → bytes ≡ told-of v (text_of_kind (layout_of v) kind)
unfolding told-of
kind-told v w kind bytes h = bytes-told (commands.GetId kind) v bytes w h

pub no-text-told : (v w : SlaveValue) (kind : ℕ) (bytes : List ℕ) → text_of_kind (layout_of v) kind ≡ None → Accepts v (commands.GetId kind) bytes w → bytes ≡ 0 ∷ 0 ∷ 0 ∷ double_bytes (layout_of v).order 0
unfolding told-of
no-text-told v w kind bytes e h = kind-told v w kind bytes h ∙ ap (told-of v) e

pub no-id-told : (v w : SlaveValue) (kind : ℕ) (bytes : List ℕ) → IsPlain (layout_of v) → kind ≢ 0 → Accepts v (commands.GetId kind) bytes w → bytes ≡ 0 ∷ 0 ∷ 0 ∷ double_bytes (layout_of v).order 0
no-id-told v w kind bytes plain other h = no-text-told v w kind bytes (plain-texts (layout_of v) kind plain other) h

-- a text without bytes is told with length 0, as one that isn't there
length-by : (none : Bool) (l : LayoutValue) (id : TextId) → (length (text_of l id) == 0) ≡ none → text_length l (if none then None else Some id) ≡ length (text_of l id)
length-by true l id e = sym ((is-it (length (text_of l id)) 0).0 e)
length-by false l id e = refl

length-told : (l : LayoutValue) (id : TextId) → text_length l (with_bytes l id) ≡ length (text_of l id)
length-told l id = length-by (length (text_of l id) == 0) l id refl

-- what GET_ID of a kind whose text may be without bytes tells
text-told : (v w : SlaveValue) (kind : ℕ) (id : TextId) (bytes : List ℕ) → text_of_kind (layout_of v) kind ≡ with_bytes (layout_of v) id → Accepts v (commands.GetId kind) bytes w → bytes ≡ 0 ∷ 0 ∷ 0 ∷ double_bytes (layout_of v).order (length (text_of (layout_of v) id))
unfolding told-of
text-told v w kind id bytes e h =
    kind-told v w kind bytes h ∙ ap (told-of v) e ∙ ap (λ (n : ℕ). 0 ∷ 0 ∷ 0 ∷ double_bytes (layout_of v).order n) (length-told (layout_of v) id)

pub a2l-name-told : (v w : SlaveValue) (bytes : List ℕ) → Accepts v (commands.GetId 1) bytes w → bytes ≡ 0 ∷ 0 ∷ 0 ∷ double_bytes (layout_of v).order (length (layout_of v).extras.a2l)
a2l-name-told v w bytes h = text-told v w 1 A2lName bytes refl h

pub a2l-file-told : (v w : SlaveValue) (bytes : List ℕ) → Accepts v (commands.GetId 4) bytes w → bytes ≡ 0 ∷ 0 ∷ 0 ∷ double_bytes (layout_of v).order (length (description (layout_of v).extras))
a2l-file-told v w bytes h = text-told v w 4 A2lFile bytes refl h

pub epk-told : (v w : SlaveValue) (bytes : List ℕ) → Accepts v (commands.GetId 5) bytes w → bytes ≡ 0 ∷ 0 ∷ 0 ∷ double_bytes (layout_of v).order (length (epk (layout_of v).extras))
epk-told v w bytes h = text-told v w 5 Epk bytes refl h

-- a text that has bytes is there
there-by : (none : Bool) (id : TextId) → none ≡ false → (if none then None else Some id) ≡ Some id
there-by true id e = cc
there-by false id e = refl

is-there : (l : LayoutValue) (id : TextId) → 0 < length (text_of l id) → with_bytes l id ≡ Some id
is-there l id h = there-by (length (text_of l id) == 0) id (grind (arith, nat_tests, h))

starts-at : SlaveValue → Option TextId → Mta
starts-at v id = text_start v.transfer.mta id

kind-start : (v w : SlaveValue) (kind : ℕ) (id : TextId) (bytes : List ℕ) → text_of_kind (layout_of v) kind ≡ Some id → Accepts v (commands.GetId kind) bytes w → w.transfer.mta ≡ Text id 0
unfolding starts-at
kind-start v w kind id bytes e h = ap (λ (x : SlaveValue). x.transfer.mta) (accepted (commands.GetId kind) v bytes w h).after ∙ ap (starts-at v) e

-- the texts that begin where GET_ID of their kind leaves the MTA
pub a2l-name-start : (v w : SlaveValue) (bytes : List ℕ) → 0 < length (layout_of v).extras.a2l → Accepts v (commands.GetId 1) bytes w → w.transfer.mta ≡ Text A2lName 0
a2l-name-start v w bytes some h = kind-start v w 1 A2lName bytes (is-there (layout_of v) A2lName some) h

pub a2l-file-start : (v w : SlaveValue) (bytes : List ℕ) → 0 < length (description (layout_of v).extras) → Accepts v (commands.GetId 4) bytes w → w.transfer.mta ≡ Text A2lFile 0
a2l-file-start v w bytes some h = kind-start v w 4 A2lFile bytes (is-there (layout_of v) A2lFile some) h

pub epk-start : (v w : SlaveValue) (bytes : List ℕ) → 0 < length (epk (layout_of v).extras) → Accepts v (commands.GetId 5) bytes w → w.transfer.mta ≡ Text Epk 0
epk-start v w bytes some h = kind-start v w 5 Epk bytes (is-there (layout_of v) Epk some) h

-- a part of the A2L file
pub a2l-file-part : (v w : SlaveValue) (place n : ℕ) (bytes : List ℕ) → v.transfer.mta ≡ Text A2lFile place → Accepts v (commands.Upload n) bytes w → (place + n ≤ length (description (layout_of v).extras)) × (bytes ≡ take n (drop place (description (layout_of v).extras)))
a2l-file-part v w place n bytes e h = upload-text-reads v w n place A2lFile bytes e h
