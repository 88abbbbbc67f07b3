-- What waits, as a queue.
use Rattle.std.proofs.Common.{◌≡◌, ◌≢◌, ℕ, zero, suc, ◌+◌, ◌<◌, ◌≤◌, Bool, true, false, List, [], ◌∷◌, ◌++◌, length, ap, sym, ◌∙◌, refl, subst, arith, inl, inr, nat_le, nat_lt, length-append, All}
use Rattle.std.specs.Prelude.{◌==◌, ◌&&◌, ◌⊎◌, if◌then◌else◌}
use Rattle.std.proofs.lemmas.Bool.Decides.{nat_tests}
use Rattle.std.proofs.lemmas.List.{append-nil, append_assoc}
use Rattle.arrayvec.specs.ArrayVec.{ArrayVec}
use Rattle.xcp_packet.specs.CommandForms.{code}
use Rattle.xcp_packet.specs.declared.Command.{Command}
use Rattle.xcp_packet.specs.declared.Command.TheVariants as commands
use Rattle.xcp_memory.specs.Freeze.{frozen_count}
use Rattle.xcp_memory.specs.Signals.{takes_signals}
use Rattle.xcp_slave.specs.declared.request.Request.{Request}
use Rattle.xcp_slave.specs.declared.request.Request.TheVariants as requests
use Rattle.xcp_slave.specs.Outcomes.{Answer}
use Rattle.xcp_slave.specs.declared.outcome.Outcome.TheVariants as answers
use Rattle.xcp_slave.specs.declared.exchange.Exchange.{Exchange}
use Rattle.xcp_slave.specs.SlaveValue.{SlaveValue, layout_of}
use Rattle.xcp_slave.specs.Rows.{row}
use Rattle.xcp_slave.specs.Run.{Run}
use Rattle.xcp_slave.specs.Step.{Answers, Drains, Fires, outbox_size, store_event, stored, with_loss, with_overload, with_sample, with_signals, found_by, at_time, with_part}
use Rattle.xcp_slave.specs.PacketQueue.{IsWithin, PutsIn, all_taken, event_packets, put_in, taken_out}
use Rattle.xcp_slave.proofs.StepLaws.{either}
use Rattle.xcp_slave.proofs.SlaveInvariantLaws.{either-test}
use Rattle.xcp_slave.proofs.UnaffectedPartLaws.{packet-part}

row-waits : (c : Command) (v : SlaveValue) → code c ≢ 0xFE → (row c (found_by c v)).after.outbox ≡ v.outbox
row-waits commands.Disconnect v h = absurd (h refl)
row-waits _ v h = refl

-- what a step does to what waits
Queues : SlaveValue → Request → Answer → SlaveValue → Type 0
Queues v q a w = taken_out q a ++ w.outbox ≡ v.outbox ++ put_in v q a

-- the answer and the slave after it are these
as-these : (v : SlaveValue) (q : Request) (x a : Answer) (y w : SlaveValue) → a ≡ x → w ≡ y → Queues v q x y → Queues v q a w
unfolding Queues
as-these v q x a y w e f h = subst (λ (b : Answer). taken_out q b ++ w.outbox ≡ v.outbox ++ put_in v q b) (sym e) (subst (λ (z : SlaveValue). taken_out q x ++ z.outbox ≡ v.outbox ++ put_in v q x) (sym f) h)

nothing-put : (v : SlaveValue) → v.outbox ≡ v.outbox ++ []
nothing-put v = sym (append-nil v.outbox)

command-queues : (v : SlaveValue) (p : ArrayVec ℕ) (a : Answer) (w : SlaveValue) → IsWithin (requests.Command p) → Answers v (requests.Command p) a w → Queues v (requests.Command p) a w
unfolding Queues
command-queues v p a w h k = packet-part (λ x. x.outbox) (λ n. n ≢ 0xFE) v p.items a w refl (λ c n. row-waits c v n) h k ∙ nothing-put v

drains-queue : (o : List (ArrayVec ℕ)) (v : SlaveValue) (a : Answer) (w : SlaveValue) → v.outbox ≡ o → Drains o v a w → Queues v requests.Drain a w
unfolding Queues
drains-queue [] v a w e k = as-these v requests.Drain answers.Nothing a v w k.0 k.1 (nothing-put v)
drains-queue (p ∷ rest) v a w e k = as-these v requests.Drain (answers.Packets (p.items ∷ [])) a (record v { outbox = rest }) w k.0 k.1 (sym e ∙ nothing-put v)

-- a tool that is connected is told of a store
told-of : (b : Bool) (o : List (ArrayVec ℕ)) → (if b then o ++ store_event ∷ [] else o) ≡ o ++ (if b then store_event ∷ [] else [])
told-of true o = refl
told-of false o = sym (append-nil o)

stores-queue : (v : SlaveValue) (a : Answer) (w : SlaveValue) → Answers v requests.FinishStore a w → Queues v requests.FinishStore a w
unfolding Queues
stores-queue v a w k =
    either v.store _ _ _ k
    (λ m. either (v.connected && nat_le (outbox_size v) (length v.outbox)) _ _ _ m
    (λ n. as-these v requests.FinishStore answers.Later a v w n.0 n.1 (nothing-put v))
    (λ n. as-these v requests.FinishStore (answers.Stored (frozen_count v.transfer.pages)) a (stored v) w n.0 n.1 (told-of v.connected v.outbox)))
    (λ m. as-these v requests.FinishStore answers.NoStore a v w m.0 m.1 (nothing-put v))

-- what an event puts
abbrev event_put : SlaveValue → ℕ → List ℕ → List (ArrayVec ℕ)
event_put v channel signals = with_overload (outbox_size v) v.overloaded (event_packets v channel signals)

-- what an event does: the four ways in which it ends
pub record Fired (v : SlaveValue) (channel : ℕ) (signals : List ℕ) (a : Answer) (w : SlaveValue) : Type 0 where
  pub ways : ((a ≡ answers.Sampled (length (event_put v channel signals))) × (w.outbox ≡ v.outbox ++ event_put v channel signals) × (length v.outbox + length (event_put v channel signals) ≤ outbox_size v))
      ⊎ ((w.outbox ≡ v.outbox) × ((a ≡ answers.Overrun) × (outbox_size v < length v.outbox + length (event_put v channel signals)) ⊎ ((a ≡ answers.BadSignals) ⊎ (a ≡ answers.NoChannel))))

is-room : (n size : ℕ) → nat_le n size ≡ true → n ≤ size
is-room n size h = grind (arith, nat_tests, h)

no-room : (n size : ℕ) → nat_le n size ≡ false → size < n
no-room n size h = grind (arith, nat_tests, h)

outbox-of : (y w : SlaveValue) → w ≡ y → w.outbox ≡ y.outbox
outbox-of y w e = ap (λ (x : SlaveValue). x.outbox) e

-- an event is sampled, and its packets wait; or it overruns, or has bad signals or no channel, and none of them does
pub fired : (v : SlaveValue) (channel : ℕ) (signals : List ℕ) (a : Answer) (w : SlaveValue) → Fires channel signals v a w → Fired v channel signals a w
fired v channel signals a w k =
    either (nat_lt channel (length (layout_of v).events)) _ _ _ k
    (λ m. either (takes_signals (layout_of v) (length signals)) _ _ _ m
    (λ n. either-test (nat_le (length v.outbox + length (event_put v channel signals)) (outbox_size v)) _ _ _
    (λ r o. record { ways = inl (o.0, outbox-of (with_sample channel (event_packets v channel signals) (with_signals signals v)) w o.1, is-room _ _ r) })
    (λ r o. record { ways = inr (outbox-of (with_loss channel (with_signals signals v)) w o.1, inl (o.0, no-room _ _ r)) }) n)
    (λ n. record { ways = inr (outbox-of v w n.1, inr (inl n.0)) }))
    (λ m. record { ways = inr (outbox-of v w m.1, inr (inr m.0)) })

-- the same of what waits
empty-event : (v : SlaveValue) (channel : ℕ) (signals : ArrayVec ℕ) (x a : Answer) (w : SlaveValue) → w.outbox ≡ v.outbox → a ≡ x → put_in v (requests.Event channel signals) x ≡ [] → Queues v (requests.Event channel signals) a w
unfolding Queues
empty-event v channel signals x a w e f n = e ∙ nothing-put v ∙ ap (λ (o : List (ArrayVec ℕ)). v.outbox ++ o) (sym n) ∙ ap (λ (b : Answer). v.outbox ++ put_in v (requests.Event channel signals) b) (sym f)

fires-queue : (v : SlaveValue) (channel : ℕ) (signals : ArrayVec ℕ) (a : Answer) (w : SlaveValue) → Answers v (requests.Event channel signals) a w → Queues v (requests.Event channel signals) a w
unfolding Queues
fires-queue v channel signals a w k =
    elim (fired v channel signals.items a w k).ways [
      | inl s ↦ s.1 ∙ ap (λ (b : Answer). v.outbox ++ put_in v (requests.Event channel signals) b) (sym s.0)
      | inr s ↦ elim s.1 [
        | inl o ↦ empty-event v channel signals answers.Overrun a w s.0 o.0 refl
        | inr o ↦ elim o [
          | inl b ↦ empty-event v channel signals answers.BadSignals a w s.0 b refl
          | inr b ↦ empty-event v channel signals answers.NoChannel a w s.0 b refl
        ]
      ]
    ]

-- within a session, what a step takes out and what then waits is what waited and what it puts in, in order
pub step-queues : (v : SlaveValue) (q : Request) (a : Answer) (w : SlaveValue) → IsWithin q → Answers v q a w → taken_out q a ++ w.outbox ≡ v.outbox ++ put_in v q a
unfolding Queues
step-queues v (requests.Command p) a w h k = command-queues v p a w h k
step-queues v (requests.Event channel signals) a w h k = fires-queue v channel signals a w k
step-queues v requests.Drain a w h k = drains-queue v.outbox v a w refl k
step-queues v requests.FinishStore a w h k = stores-queue v a w k
step-queues v requests.Hangup a w h k = absurd h
step-queues v (requests.Time time) a w h k = as-these v (requests.Time time) answers.Silent a (at_time time v) w k.0 k.1 (nothing-put v)
step-queues v (requests.Signals place bytes) a w h k =
    either (nat_le (place + length bytes.items) (layout_of v).signals_length) _ _ _ k
    (λ m. as-these v (requests.Signals place bytes) answers.Silent a (with_part place bytes.items v) w m.0 m.1 (nothing-put v))
    (λ m. as-these v (requests.Signals place bytes) answers.BadSignals a v w m.0 m.1 (nothing-put v))

-- runs

-- of each run there is a list of the packets that it puts in
pub run-puts-in : (v : SlaveValue) (xs : List Exchange) (w : SlaveValue) → Run v xs w → (packets : List (ArrayVec ℕ)) × PutsIn v xs packets w
run-puts-in v [] w r = ([], (refl, r))
run-puts-in v (x ∷ xs) w r =
    let rest = run-puts-in r.0 xs w r.2 in
    (put_in v x.request x.answer ++ rest.0, (r.0, rest.0, r.1, refl, rest.1))

-- within a session, what a run takes out and what then waits is what waited and what it puts in, in order
pub run-queues : (v : SlaveValue) (xs : List Exchange) (packets : List (ArrayVec ℕ)) (w : SlaveValue) → All (λ (x : Exchange). IsWithin x.request) xs → PutsIn v xs packets w → all_taken xs ++ w.outbox ≡ v.outbox ++ packets
run-queues v [] packets w h k = ap (λ (x : SlaveValue). x.outbox) k.1 ∙ nothing-put v ∙ ap (λ (o : List (ArrayVec ℕ)). v.outbox ++ o) (sym k.0)
run-queues v (x ∷ xs) packets w h k =
    let mid : SlaveValue = k.0 in
    let rest : List (ArrayVec ℕ) = k.1 in
    let taken : List (ArrayVec ℕ) = taken_out x.request x.answer in
    let put : List (ArrayVec ℕ) = put_in v x.request x.answer in
    let one : taken ++ mid.outbox ≡ v.outbox ++ put = step-queues v x.request x.answer mid (h zero x (omega arith)) k.2 in
    let others : all_taken xs ++ w.outbox ≡ mid.outbox ++ rest = run-queues mid xs rest w (λ j d below. h (suc j) d (omega arith)) k.4 in
    append_assoc taken (all_taken xs) w.outbox
    ∙ ap (λ (o : List (ArrayVec ℕ)). taken ++ o) others
    ∙ sym (append_assoc taken mid.outbox rest)
    ∙ ap (λ (o : List (ArrayVec ℕ)). o ++ rest) one
    ∙ append_assoc v.outbox put rest
    ∙ ap (λ (o : List (ArrayVec ℕ)). v.outbox ++ o) (sym k.3)

drains-first : (o : List (ArrayVec ℕ)) (v : SlaveValue) (packet : ArrayVec ℕ) (rest : List (ArrayVec ℕ)) (a : Answer) (w : SlaveValue) → o ≡ packet ∷ rest → Drains o v a w → (a ≡ answers.Packets (packet.items ∷ [])) × (w.outbox ≡ rest)
drains-first o v packet rest a w e k =
    let now : Drains (packet ∷ rest) v a w = subst (λ (x : List (ArrayVec ℕ)). Drains x v a w) e k in
    (now.0, ap (λ (x : SlaveValue). x.outbox) now.1)

-- a drain answers the first packet that waits, and then the others wait
pub first-drained : (v : SlaveValue) (packet : ArrayVec ℕ) (rest : List (ArrayVec ℕ)) (a : Answer) (w : SlaveValue) → v.outbox ≡ packet ∷ rest → Answers v requests.Drain a w → (a ≡ answers.Packets (packet.items ∷ [])) × (w.outbox ≡ rest)
first-drained v packet rest a w e k = drains-first v.outbox v packet rest a w e k

-- events

-- how many packets an answer says
abbrev said : Answer → ℕ
said (answers.Sampled n) = n
said _ = 0

abbrev is_sampled : Answer → Bool
is_sampled (answers.Sampled n) = true
is_sampled _ = false

not-sampled : (n : ℕ) (x : Answer) (R : Type 0) → answers.Sampled n ≡ x → is_sampled x ≡ false → R
not-sampled n x R e h = let t : true ≡ false = ap (λ (y : Answer). is_sampled y) e ∙ h in cc

-- a sampled event
pub event-waits : (v : SlaveValue) (channel n : ℕ) (signals : ArrayVec ℕ) (w : SlaveValue) → Answers v (requests.Event channel signals) (answers.Sampled n) w → (n ≡ length (event_put v channel signals.items)) × (w.outbox ≡ v.outbox ++ event_put v channel signals.items) × (length w.outbox ≤ outbox_size v)
event-waits v channel n signals w k =
    elim (fired v channel signals.items (answers.Sampled n) w k).ways [
      | inl s ↦ (ap (λ (b : Answer). said b) s.0, s.1, (let e = ap (λ (o : List (ArrayVec ℕ)). length o) s.1 in let l = length-append v.outbox (event_put v channel signals.items) in let r = s.2 in omega arith))
      | inr s ↦ elim s.1 [
        | inl o ↦ not-sampled n answers.Overrun _ o.0 refl
        | inr o ↦ elim o [
          | inl b ↦ not-sampled n answers.BadSignals _ b refl
          | inr b ↦ not-sampled n answers.NoChannel _ b refl
        ]
      ]
    ]

-- a sampled event is answered with the number of its packets, and all of them wait behind the others
pub event-whole : (v : SlaveValue) (channel n : ℕ) (signals : ArrayVec ℕ) (w : SlaveValue) → Answers v (requests.Event channel signals) (answers.Sampled n) w → (n ≡ length (event_put v channel signals.items)) × (w.outbox ≡ v.outbox ++ event_put v channel signals.items)
event-whole v channel n signals w k = let r = event-waits v channel n signals w k in (r.0, r.1)

-- after a sampled event no more packets wait than have room
pub event-room : (v : SlaveValue) (channel n : ℕ) (signals : ArrayVec ℕ) (w : SlaveValue) → Answers v (requests.Event channel signals) (answers.Sampled n) w → length w.outbox ≤ outbox_size v
event-room v channel n signals w k = (event-waits v channel n signals w k).2

-- an event that isn't sampled leaves the packets that wait as they were
pub event-none : (v : SlaveValue) (channel : ℕ) (signals : ArrayVec ℕ) (a : Answer) (w : SlaveValue) → Answers v (requests.Event channel signals) a w → ((n : ℕ) × (a ≡ answers.Sampled n)) ⊎ (w.outbox ≡ v.outbox)
event-none v channel signals a w k =
    elim (fired v channel signals.items a w k).ways [
      | inl s ↦ inl (length (event_put v channel signals.items), s.0)
      | inr s ↦ inr s.0
    ]

-- an event overruns only where its packets and those that wait are more than have room
pub event-overrun : (v : SlaveValue) (channel : ℕ) (signals : ArrayVec ℕ) (w : SlaveValue) → Answers v (requests.Event channel signals) answers.Overrun w → outbox_size v < length v.outbox + length (event_put v channel signals.items)
event-overrun v channel signals w k =
    elim (fired v channel signals.items answers.Overrun w k).ways [
      | inl s ↦ not-sampled (length (event_put v channel signals.items)) answers.Overrun _ (sym s.0) refl
      | inr s ↦ elim s.1 [
        | inl o ↦ o.1
        | inr o ↦ elim o [
          | inl b ↦ (let e : answers.Overrun ≡ answers.BadSignals = b in cc)
          | inr b ↦ (let e : answers.Overrun ≡ answers.NoChannel = b in cc)
        ]
      ]
    ]
