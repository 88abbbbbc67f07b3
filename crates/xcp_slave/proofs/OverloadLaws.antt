-- Lost samples, and the event packet that tells of them.
use Rattle.std.proofs.Common.{◌≡◌, ◌≢◌, ◌<◌, ◌≤◌, inl, inr, ℕ, zero, suc, ◌+◌, Bool, true, false, List, [], ◌∷◌, ◌++◌, length, ap, sym, ◌∙◌, refl, subst, arith, nat_le, nat_lt, slice_index, All}
use Rattle.std.specs.Prelude.{◌==◌, ◌⊎◌, not, if◌then◌else◌}
use Rattle.std.proofs.lemmas.Bool.Decides.{nat_tests}
use Rattle.std.proofs.lemmas.List.{append-nil}
use Rattle.arrayvec.specs.ArrayVec.{ArrayVec}
use Rattle.xcp_packet.specs.CommandForms.{code}
use Rattle.xcp_packet.specs.declared.Command.{Command}
use Rattle.xcp_packet.specs.declared.Command.TheVariants as commands
use Rattle.xcp_memory.specs.declared.Class.{Class}
use Rattle.xcp_memory.specs.ClassLimits.{limits_of}
use Rattle.xcp_memory.specs.Layout.{LayoutValue}
use Rattle.xcp_memory.specs.Signals.{takes_signals}
use Rattle.xcp_daq.specs.DaqInfo.{daq_properties}
use Rattle.xcp_daq.specs.DaqLists.{has_stamp}
use Rattle.xcp_slave.specs.declared.request.Request.{Request}
use Rattle.xcp_slave.specs.declared.request.Request.TheVariants as requests
use Rattle.xcp_slave.specs.declared.exchange.Exchange.{Exchange}
use Rattle.xcp_slave.specs.Outcomes.{Answer}
use Rattle.xcp_slave.specs.declared.outcome.Outcome.TheVariants as answers
use Rattle.xcp_slave.specs.CodesByEffect.{IsNoEvent}
use Rattle.xcp_slave.specs.LostSamples.{PutsNoSample}
use Rattle.xcp_slave.specs.PacketQueue.{IsWithin, event_packets}
use Rattle.xcp_slave.specs.Rows.{row}
use Rattle.xcp_slave.specs.Run.{Run}
use Rattle.xcp_slave.specs.SampledBytes.{DuePackets}
use Rattle.xcp_slave.specs.SlaveInvariant.{IsDataPacket, IsSlave, IsWaiting}
use Rattle.xcp_slave.specs.SlaveValue.{SlaveValue, layout_of, opening}
use Rattle.xcp_slave.specs.Step.{Answers, Fires, found_by, outbox_size, overload_event, still_overloaded, store_event, with_event, with_loss, with_overload, with_sample, with_signals}
use Rattle.xcp_slave.proofs.ClassLimitLemmas.{few-odts, some-room}
use Rattle.xcp_slave.proofs.LayoutKeptLemmas.{answers-layout}
use Rattle.xcp_slave.proofs.OutboxInvariantLemmas.{sample}
use Rattle.xcp_slave.proofs.PacketQueueLaws.{event-overrun, event-whole}
use Rattle.xcp_slave.proofs.RefusalLaws.{overrun-leaves}
use Rattle.xcp_slave.proofs.SampledByteLaws.{event-reads}
use Rattle.xcp_slave.proofs.StepLaws.{either, hands-part}
use Rattle.xcp_slave.proofs.UnaffectedPartLaws.{drains-part, packet-part, stores-part}

flag-of : (y w : SlaveValue) → w ≡ y → w.overloaded ≡ y.overloaded
flag-of y w e = ap (λ (x : SlaveValue). x.overloaded) e

-- what an event does to whether the tool has to be told: it is sampled, overruns, or is none
record Flagged (v : SlaveValue) (channel : ℕ) (signals : List ℕ) (a : Answer) (w : SlaveValue) : Type 0 where
  ways : ((a ≡ answers.Sampled (length (with_overload (outbox_size v) v.overloaded (event_packets v channel signals)))) × (w.overloaded ≡ still_overloaded (outbox_size v) v.overloaded (event_packets v channel signals)))
      ⊎ (((a ≡ answers.Overrun) × (w.overloaded ≡ (layout_of v).extras.tells_overload))
      ⊎ (((a ≡ answers.BadSignals) ⊎ (a ≡ answers.NoChannel)) × (w.overloaded ≡ v.overloaded)))

flagged : (v : SlaveValue) (channel : ℕ) (signals : List ℕ) (a : Answer) (w : SlaveValue) → Fires channel signals v a w → Flagged v channel signals a w
flagged v channel signals a w k =
    either (nat_lt channel (length (layout_of v).events)) _ _ _ k
    (λ m. either (takes_signals (layout_of v) (length signals)) _ _ _ m
    (λ n. either (nat_le (length v.outbox + length (with_overload (outbox_size v) v.overloaded (event_packets v channel signals))) (outbox_size v)) _ _ _ n
    (λ o. record { ways = inl (o.0, flag-of (with_sample channel (event_packets v channel signals) (with_signals signals v)) w o.1) })
    (λ o. record { ways = inr (inl (o.0, flag-of (with_loss channel (with_signals signals v)) w o.1)) }))
    (λ n. record { ways = inr (inr (inl n.0, flag-of v w n.1)) }))
    (λ m. record { ways = inr (inr (inr m.0, flag-of v w m.1)) })

-- an event that is sampled
sampled-flag : (v : SlaveValue) (channel n : ℕ) (signals : ArrayVec ℕ) (w : SlaveValue) → Answers v (requests.Event channel signals) (answers.Sampled n) w → w.overloaded ≡ still_overloaded (outbox_size v) v.overloaded (event_packets v channel signals.items)
sampled-flag v channel n signals w k =
    elim (flagged v channel signals.items (answers.Sampled n) w k).ways [
      | inl s ↦ s.1
      | inr s ↦ elim s [
        | inl o ↦ (let e : answers.Sampled n ≡ answers.Overrun = o.0 in cc)
        | inr o ↦ elim o.0 [
          | inl b ↦ (let e : answers.Sampled n ≡ answers.BadSignals = b in cc)
          | inr b ↦ (let e : answers.Sampled n ≡ answers.NoChannel = b in cc)
        ]
      ]
    ]

-- after an overrun the tool has to be told, where the layout asks for it
pub overrun-flag : (v : SlaveValue) (channel : ℕ) (signals : ArrayVec ℕ) (w : SlaveValue) → (layout_of v).extras.tells_overload ≡ true → Answers v (requests.Event channel signals) answers.Overrun w → w.overloaded ≡ true
overrun-flag v channel signals w t k = flag-of _ w (overrun-leaves v channel signals w k) ∙ t

-- commands

row-flag : (c : Command) (v : SlaveValue) → v.overloaded ≡ false → (row c (found_by c v)).after.overloaded ≡ v.overloaded
row-flag commands.Disconnect v h = sym h
row-flag _ v h = refl

row-told : (c : Command) (v : SlaveValue) → code c ≢ 0xFE → (row c (found_by c v)).after.overloaded ≡ v.overloaded
row-told commands.Disconnect v h = absurd (h refl)
row-told _ v h = refl

-- within a session no request but an event changes whether the tool has to be told
pub flag-kept : (v : SlaveValue) (q : Request) (a : Answer) (w : SlaveValue) → IsWithin q → IsNoEvent q → Answers v q a w → w.overloaded ≡ v.overloaded
flag-kept v (requests.Command p) a w h e k = packet-part (λ x. x.overloaded) (λ n. n ≢ 0xFE) v p.items a w refl (λ c n. row-told c v n) h k
flag-kept v (requests.Event channel signals) a w h e k = absurd e
flag-kept v requests.Drain a w h e k = drains-part (λ x. x.overloaded) v.outbox v a w (λ o. refl) k
flag-kept v requests.FinishStore a w h e k = stores-part (λ x. x.overloaded) v a w refl k
flag-kept v requests.Hangup a w h e k = absurd h
flag-kept v (requests.Time time) a w h e k = flag-of _ w k.1
flag-kept v (requests.Signals place bytes) a w h e k = hands-part (λ x. x.overloaded) place bytes.items v a w refl k

-- nobody has to be told

step-untold : (v : SlaveValue) (q : Request) (a : Answer) (w : SlaveValue) → (a ≡ answers.Overrun → (layout_of v).extras.tells_overload ≡ false) → v.overloaded ≡ false → Answers v q a w → w.overloaded ≡ false
step-untold v (requests.Command p) a w t h k = packet-part (λ x. x.overloaded) (λ n. Unit {0}) v p.items a w refl (λ c n. row-flag c v h) tt k ∙ h
step-untold v (requests.Event channel signals) a w t h k =
    elim (flagged v channel signals.items a w k).ways [
      | inl s ↦ s.1 ∙ ap (λ (b : Bool). still_overloaded (outbox_size v) b (event_packets v channel signals.items)) h
      | inr s ↦ elim s [
        | inl o ↦ o.1 ∙ t o.0
        | inr o ↦ o.1 ∙ h
      ]
    ]
step-untold v requests.Drain a w t h k = flag-kept v requests.Drain a w tt tt k ∙ h
step-untold v requests.FinishStore a w t h k = flag-kept v requests.FinishStore a w tt tt k ∙ h
step-untold v requests.Hangup a w t h k = flag-of _ w k.1
step-untold v (requests.Time time) a w t h k = flag-of _ w k.1 ∙ h
step-untold v (requests.Signals place bytes) a w t h k = flag-kept v (requests.Signals place bytes) a w tt tt k ∙ h

-- no step makes that a tool has to be told, where the layout doesn't ask for it
pub step-unasked : (v : SlaveValue) (q : Request) (a : Answer) (w : SlaveValue) → (layout_of v).extras.tells_overload ≡ false → v.overloaded ≡ false → Answers v q a w → w.overloaded ≡ false
step-unasked v q a w t h k = step-untold v q a w (λ e. t) h k

run-from : (v : SlaveValue) (xs : List Exchange) (w : SlaveValue) → (layout_of v).extras.tells_overload ≡ false → v.overloaded ≡ false → Run v xs w → w.overloaded ≡ false
run-from v [] w t h r = flag-of v w r ∙ h
run-from v (x ∷ xs) w t h r = run-from r.0 xs w (ap (λ (l : LayoutValue). l.extras.tells_overload) (answers-layout v x.request x.answer r.0 r.1) ∙ t) (step-unasked v x.request x.answer r.0 t h r.1) r.2

-- nor does a run
pub run-unasked : (l : LayoutValue) (xs : List Exchange) (w : SlaveValue) → l.extras.tells_overload ≡ false → Run (opening l) xs w → w.overloaded ≡ false
run-unasked l xs w t r = run-from (opening l) xs w t refl r

-- nor does a run without an overrun
pub run-once : (v : SlaveValue) (xs : List Exchange) (w : SlaveValue) → v.overloaded ≡ false → All (λ (x : Exchange). x.answer ≢ answers.Overrun) xs → Run v xs w → w.overloaded ≡ false
run-once v [] w h n r = flag-of v w r ∙ h
run-once v (x ∷ xs) w h n r = run-once r.0 xs w (step-untold v x.request x.answer r.0 (λ e. absurd (n zero x (omega arith) e)) h r.1) (λ k d below. n (suc k) d (omega arith)) r.2

by-asked : (b c : Bool) → (b ≡ true → c ≡ true) → c ≡ false → b ≡ false
by-asked false c h t = refl
by-asked true c h t = let e = h refl in cc

-- a slave whose layout doesn't ask for it
pub slave-unasked : (v : SlaveValue) → IsSlave v → (layout_of v).extras.tells_overload ≡ false → v.overloaded ≡ false
slave-unasked v h t = by-asked v.overloaded (layout_of v).extras.tells_overload h.asked t

-- nothing but data packets is put
pub sampled-alone : (v : SlaveValue) (channel n : ℕ) (signals : ArrayVec ℕ) (w : SlaveValue) → v.overloaded ≡ false → Answers v (requests.Event channel signals) (answers.Sampled n) w → (n ≡ length (event_packets v channel signals.items)) × (w.outbox ≡ v.outbox ++ event_packets v channel signals.items)
sampled-alone v channel n signals w h k = subst (λ (b : Bool). (n ≡ length (with_overload (outbox_size v) b (event_packets v channel signals.items))) × (w.outbox ≡ v.outbox ++ with_overload (outbox_size v) b (event_packets v channel signals.items))) h (event-whole v channel n signals w k)

-- where no tool has to be told, just the packets of the lists that are due are put, with the bytes that they read
pub bytes-alone : (v : SlaveValue) (channel n : ℕ) (signals : ArrayVec ℕ) (w : SlaveValue) → IsSlave v → v.overloaded ≡ false → Answers v (requests.Event channel signals) (answers.Sampled n) w → (packets : List (ArrayVec ℕ)) × DuePackets channel v.time (with_signals signals.items v).transfer.pages v.daq 0 v.daq.lists packets × (w.outbox ≡ v.outbox ++ packets)
bytes-alone v channel n signals w i h k =
    let r = event-reads v channel n signals w i k in
    (r.0, r.1, r.2 ∙ ap (λ (b : Bool). v.outbox ++ with_overload (outbox_size v) b r.0) h)

with_flag : SlaveValue → Bool → SlaveValue
with_flag v b = record v { overloaded = b }

-- an overrun changes nothing but signals and counts
pub overrun-alone : (v : SlaveValue) (channel : ℕ) (signals : ArrayVec ℕ) (w : SlaveValue) → (layout_of v).extras.tells_overload ≡ false → v.overloaded ≡ false → Answers v (requests.Event channel signals) answers.Overrun w → (outbox_size v < length v.outbox + length (event_packets v channel signals.items)) × (w ≡ with_event channel (with_signals signals.items v))
unfolding with_flag
overrun-alone v channel signals w t h k = (
  subst (λ (b : Bool). outbox_size v < length v.outbox + length (with_overload (outbox_size v) b (event_packets v channel signals.items))) h (event-overrun v channel signals w k),
  overrun-leaves v channel signals w k ∙ ap (with_flag (with_event channel (with_signals signals.items v))) (t ∙ sym h),
)

waits-unasked : (l : LayoutValue) (p : ArrayVec ℕ) → l.extras.tells_overload ≡ false → IsWaiting l p → (p ≡ store_event) ⊎ IsDataPacket l p
waits-unasked l p t (inl e) = inl e
waits-unasked l p t (inr (inl e)) = let a = e.0 in cc
waits-unasked l p t (inr (inr d)) = inr d

-- no packet that waits tells of a loss
pub waiting-unasked : (v : SlaveValue) → IsSlave v → (layout_of v).extras.tells_overload ≡ false → All (λ (p : ArrayVec ℕ). (p ≡ store_event) ⊎ IsDataPacket (layout_of v) p) v.outbox
waiting-unasked v h t = λ k d below. waits-unasked (layout_of v) _ t (h.waiting k d below)

zero-behind : (n : ℕ) → n + 0 ≡ n
zero-behind n = omega arith

-- DAQ_PROPERTIES has no bit for it
pub properties-unasked : (layout : LayoutValue) → layout.extras.tells_overload ≡ false → daq_properties layout ≡ 0x03 + (if has_stamp layout.clock.stamp then 0x10 else 0)
properties-unasked layout t = ap (λ (b : Bool). 0x03 + (if has_stamp layout.clock.stamp then 0x10 else 0) + (if b then 0x80 else 0)) t ∙ zero-behind _

-- a tool is told

-- whether packets have room beside the event packet
has-room : (n size : ℕ) → n < size → nat_lt n size ≡ true
has-room n size h = grind (arith, nat_tests, h)

fills-all : (n size : ℕ) → size ≤ n → nat_lt n size ≡ false
fills-all n size h = grind (arith, nat_tests, h)

told-by : (room : Bool) (p : ArrayVec ℕ) (ps o all : List (ArrayVec ℕ)) → room ≡ true → all ≡ o ++ (if room then overload_event ∷ p ∷ ps else p ∷ ps) → (all ≡ o ++ overload_event ∷ p ∷ ps) × (not room ≡ false)
told-by true p ps o all e h = (h, refl)
told-by false p ps o all e h = cc

alone-by : (room : Bool) (p : ArrayVec ℕ) (ps o all : List (ArrayVec ℕ)) → room ≡ false → all ≡ o ++ (if room then overload_event ∷ p ∷ ps else p ∷ ps) → (all ≡ o ++ p ∷ ps) × (not room ≡ true)
alone-by true p ps o all e h = cc
alone-by false p ps o all e h = (h, refl)

before-packets : (size : ℕ) (b : Bool) (ps o all : List (ArrayVec ℕ)) (n : ℕ) → b ≡ true → n ≢ 0 → length ps < size → n ≡ length (with_overload size b ps) → all ≡ o ++ with_overload size b ps → (all ≡ o ++ overload_event ∷ ps) × (still_overloaded size b ps ≡ false)
before-packets size true [] o all n b s few e h = absurd (s e)
before-packets size true (p ∷ ps) o all n b s few e h = told-by (nat_lt (length (p ∷ ps)) size) p ps o all (has-room (length (p ∷ ps)) size few) h
before-packets size false ps o all n b s few e h = cc

by-themselves : (size : ℕ) (b : Bool) (ps o all : List (ArrayVec ℕ)) → b ≡ true → size ≤ length ps → 0 < size → all ≡ o ++ with_overload size b ps → (all ≡ o ++ ps) × (still_overloaded size b ps ≡ true)
by-themselves size true [] o all b many some h = absurd (omega arith)
by-themselves size true (p ∷ ps) o all b many some h = alone-by (nat_lt (length (p ∷ ps)) size) p ps o all (fills-all (length (p ∷ ps)) size many) h
by-themselves size false ps o all b many some h = cc

-- the event packet stands before the first packet that is put, and then the tool is told
pub first-told : (v : SlaveValue) (channel n : ℕ) (signals : ArrayVec ℕ) (w : SlaveValue) → v.overloaded ≡ true → n ≢ 0 → length (event_packets v channel signals.items) < outbox_size v → Answers v (requests.Event channel signals) (answers.Sampled n) w → (w.outbox ≡ v.outbox ++ overload_event ∷ event_packets v channel signals.items) × (w.overloaded ≡ false)
first-told v channel n signals w b s few k =
    let whole = event-whole v channel n signals w k in
    let r = before-packets (outbox_size v) v.overloaded (event_packets v channel signals.items) v.outbox w.outbox n b s few whole.0 whole.1 in
    (r.0, sampled-flag v channel n signals w k ∙ r.1)

-- a sample that takes all the room there is
pub full-untold : (v : SlaveValue) (channel n : ℕ) (signals : ArrayVec ℕ) (w : SlaveValue) → v.overloaded ≡ true → outbox_size v ≤ length (event_packets v channel signals.items) → Answers v (requests.Event channel signals) (answers.Sampled n) w → (w.outbox ≡ v.outbox ++ event_packets v channel signals.items) × (w.overloaded ≡ true)
full-untold v channel n signals w b many k =
    let whole = event-whole v channel n signals w k in
    let r = by-themselves (outbox_size v) v.overloaded (event_packets v channel signals.items) v.outbox w.outbox b many (some-room (layout_of v).class) whole.1 in
    (r.0, sampled-flag v channel n signals w k ∙ r.1)

some-packets : (room : Bool) (p : ArrayVec ℕ) (ps : List (ArrayVec ℕ)) → length (if room then overload_event ∷ p ∷ ps else p ∷ ps) ≡ 0 → ⊥
some-packets true p ps e = omega arith
some-packets false p ps e = omega arith

no-packets : (size : ℕ) (b : Bool) (ps o all : List (ArrayVec ℕ)) → length (with_overload size b ps) ≡ 0 → all ≡ o ++ with_overload size b ps → (all ≡ o) × (still_overloaded size b ps ≡ b)
no-packets size false [] o all e h = (h ∙ append-nil o, refl)
no-packets size true [] o all e h = (h ∙ append-nil o, refl)
no-packets size false (p ∷ ps) o all e h = absurd (omega arith)
no-packets size true (p ∷ ps) o all e h = absurd (some-packets (nat_lt (length (p ∷ ps)) size) p ps e)

-- an event that samples nothing puts nothing, and tells nothing
pub nothing-told : (v : SlaveValue) (channel : ℕ) (signals : ArrayVec ℕ) (w : SlaveValue) → Answers v (requests.Event channel signals) (answers.Sampled 0) w → (w.outbox ≡ v.outbox) × (w.overloaded ≡ v.overloaded)
nothing-told v channel signals w k =
    let whole = event-whole v channel 0 signals w k in
    let r = no-packets (outbox_size v) v.overloaded (event_packets v channel signals.items) v.outbox w.outbox (sym whole.0) whole.1 in
    (r.0, sampled-flag v channel 0 signals w k ∙ r.1)

alone : (size : ℕ) (b : Bool) → length (with_overload size b []) ≡ 0
alone size true = refl
alone size false = refl

-- nor does it overrun
pub none-overruns : (v : SlaveValue) (channel : ℕ) (signals : ArrayVec ℕ) (a : Answer) (w : SlaveValue) → IsSlave v → event_packets v channel signals.items ≡ [] → Answers v (requests.Event channel signals) a w → a ≢ answers.Overrun
none-overruns v channel signals a w h n k = λ e. (
    let over = event-overrun v channel signals w (subst (λ (b : Answer). Answers v (requests.Event channel signals) b w) e k) in
    let none : length (with_overload (outbox_size v) v.overloaded (event_packets v channel signals.items)) ≡ 0 = ap (λ (ps : List (ArrayVec ℕ)). length (with_overload (outbox_size v) v.overloaded ps)) n ∙ alone (outbox_size v) v.overloaded in
    let few = h.few in
    omega arith)

begins-apart : (class : Class) (p : ArrayVec ℕ) → slice_index p.items 0 < (limits_of class).odts → p ≢ overload_event
begins-apart class p below = λ e. (let few = few-odts class in let first : slice_index p.items 0 ≡ 0xFD = ap (λ (x : ArrayVec ℕ). slice_index x.items 0) e in omega arith)

-- no data packet is that event packet
pub data-apart : (v : SlaveValue) (channel : ℕ) (signals : List ℕ) → IsSlave v → All (λ (p : ArrayVec ℕ). p ≢ overload_event) (event_packets v channel signals)
data-apart v channel signals h = λ k d below. begins-apart (layout_of v).class _ (sample (layout_of v) channel v.time (with_signals signals v).transfer.pages v.daq h.lists k d below).pid

step-told : (v : SlaveValue) (q : Request) (a : Answer) (w : SlaveValue) → (layout_of v).extras.tells_overload ≡ true → v.overloaded ≡ true → IsWithin q → PutsNoSample a → Answers v q a w → w.overloaded ≡ true
step-told v (requests.Command p) a w t h i n k = flag-kept v (requests.Command p) a w i tt k ∙ h
step-told v (requests.Event channel signals) a w t h i n k =
    elim (flagged v channel signals.items a w k).ways [
      | inl s ↦ s.1 ∙ (no-packets (outbox_size v) v.overloaded (event_packets v channel signals.items) [] _ (subst PutsNoSample s.0 n) refl).1 ∙ h
      | inr s ↦ elim s [
        | inl o ↦ o.1 ∙ t
        | inr o ↦ o.1 ∙ h
      ]
    ]
step-told v requests.Drain a w t h i n k = flag-kept v requests.Drain a w i tt k ∙ h
step-told v requests.FinishStore a w t h i n k = flag-kept v requests.FinishStore a w i tt k ∙ h
step-told v requests.Hangup a w t h i n k = absurd i
step-told v (requests.Time time) a w t h i n k = flag-kept v (requests.Time time) a w i tt k ∙ h
step-told v (requests.Signals place bytes) a w t h i n k = flag-kept v (requests.Signals place bytes) a w i tt k ∙ h

run-told : (v : SlaveValue) (xs : List Exchange) (w : SlaveValue) → (layout_of v).extras.tells_overload ≡ true → v.overloaded ≡ true → All (λ (x : Exchange). IsWithin x.request) xs → All (λ (x : Exchange). PutsNoSample x.answer) xs → Run v xs w → w.overloaded ≡ true
run-told v [] w t h i n r = flag-of v w r ∙ h
run-told v (x ∷ xs) w t h i n r =
    run-told r.0 xs w (ap (λ (l : LayoutValue). l.extras.tells_overload) (answers-layout v x.request x.answer r.0 r.1) ∙ t)
    (step-told v x.request x.answer r.0 t h (i zero x (omega arith)) (n zero x (omega arith)) r.1)
    (λ k d below. i (suc k) d (omega arith)) (λ k d below. n (suc k) d (omega arith)) r.2

-- after an overrun the event packet stands before the next sample that puts a packet
pub next-told : (v u x w : SlaveValue) (lost channel n : ℕ) (before signals : ArrayVec ℕ) (xs : List Exchange) → (layout_of v).extras.tells_overload ≡ true → Answers v (requests.Event lost before) answers.Overrun u → All (λ (x : Exchange). IsWithin x.request) xs → All (λ (x : Exchange). PutsNoSample x.answer) xs → Run u xs x → n ≢ 0 → length (event_packets x channel signals.items) < outbox_size x → Answers x (requests.Event channel signals) (answers.Sampled n) w → (w.outbox ≡ x.outbox ++ overload_event ∷ event_packets x channel signals.items) × (w.overloaded ≡ false)
next-told v u x w lost channel n before signals xs t o i s r some few k =
    let asks : (layout_of u).extras.tells_overload ≡ true = ap (λ (l : LayoutValue). l.extras.tells_overload) (answers-layout v (requests.Event lost before) answers.Overrun u o) ∙ t in
    first-told x channel n signals w (run-told u xs x asks (overrun-flag v lost before u t o) i s r) some few k
