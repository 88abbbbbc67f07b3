-- When a list is due.
use Rattle.std.proofs.Common.{◌≡◌, ℕ, zero, suc, ◌+◌, ◌<◌, ◌≤◌, Bool, true, false, List, [], ◌∷◌, length, map, get_or, ap, sym, ◌∙◌, refl, subst, arith, inl, inr, lt_of_not-le, nat_lt, nat_le, All}
use Rattle.std.specs.Prelude.{◌==◌, ◌&&◌, not, ◌⊎◌, ◌%◌, if◌then◌else◌}
use Rattle.std.proofs.Math.Nat.{mod-add-mod, mod-eq_of_lt}
use Rattle.std.proofs.lemmas.Nat.{mod_below}
use Rattle.std.proofs.lemmas.Bool.Decides.{nat_tests}
use Rattle.std.proofs.lemmas.List.{get_or-map, get_or-set_same, get_or_past}
use Rattle.arrayvec.specs.ArrayVec.{ArrayVec}
use Rattle.xcp_packet.specs.declared.Command.TheVariants as commands
use Rattle.xcp_packet.specs.declared.Code.TheVariants.{OutOfRange, DaqConfig, ModeNotValid}
use Rattle.xcp_daq.specs.DaqLists.{DaqValue, DaqList, no_list, list_at, lacks_list, has_large_odt}
use Rattle.xcp_daq.specs.Sample.{counted, due, after_event}
use Rattle.xcp_daq.specs.Starting.{switched, synchronised}
use Rattle.xcp_memory.specs.Signals.{takes_signals}
use Rattle.xcp_slave.specs.declared.request.Request.{Request}
use Rattle.xcp_slave.specs.declared.request.Request.TheVariants as requests
use Rattle.xcp_slave.specs.Outcomes.{Answer}
use Rattle.xcp_slave.specs.declared.outcome.Outcome.TheVariants as answers
use Rattle.xcp_slave.specs.declared.exchange.Exchange.{Exchange}
use Rattle.xcp_slave.specs.AcceptedCommands.{Accepts}
use Rattle.xcp_slave.specs.DueLists.{KeepsLists, counted_as, events_of}
use Rattle.xcp_slave.specs.Run.{Run}
use Rattle.xcp_slave.specs.SlaveInvariant.{IsSlave}
use Rattle.xcp_slave.specs.SlaveValue.{SlaveValue, layout_of}
use Rattle.xcp_slave.specs.Step.{Answers, Fires, outbox_size, with_overload}
use Rattle.xcp_slave.specs.PacketQueue.{event_packets}
use Rattle.xcp_slave.proofs.AcceptedCommandLaws.{accepted}
use Rattle.xcp_slave.proofs.ListInvariantLemmas.{none-holds, is_below, equal}
use Rattle.xcp_slave.proofs.StepLaws.{either}
use Rattle.xcp_slave.proofs.TransferInvariantLemmas.{none-refused}
use Rattle.xcp_slave.proofs.UnaffectedPartLaws.{lists-kept}

-- what an event does to the lists: they count it, or it is none for them
Counted : SlaveValue → ℕ → ArrayVec ℕ → Answer → SlaveValue → Type 0
Counted v channel signals a w =
    ((w.daq ≡ after_event channel v.daq) × ((c : ℕ) → counted_as c (requests.Event channel signals) a ≡ (if c == channel then 1 else 0)))
    ⊎ ((w.daq ≡ v.daq) × ((c : ℕ) → counted_as c (requests.Event channel signals) a ≡ 0))

daq-of : (y w : SlaveValue) → w ≡ y → w.daq ≡ y.daq
daq-of y w e = ap (λ (x : SlaveValue). x.daq) e

counted-with : (c channel : ℕ) (signals : ArrayVec ℕ) (x a : Answer) → a ≡ x → counted_as c (requests.Event channel signals) a ≡ counted_as c (requests.Event channel signals) x
counted-with c channel signals x a e = ap (λ (b : Answer). counted_as c (requests.Event channel signals) b) e

event-counts : (v : SlaveValue) (channel : ℕ) (signals : ArrayVec ℕ) (a : Answer) (w : SlaveValue) → Fires channel signals.items v a w → Counted v channel signals a w
unfolding Counted
event-counts v channel signals a w k =
    either (nat_lt channel (length (layout_of v).events)) _ _ _ k
    (λ m. either (takes_signals (layout_of v) (length signals.items)) _ _ _ m
    (λ n. either (nat_le (length v.outbox + length (with_overload (outbox_size v) v.overloaded (event_packets v channel signals.items))) (outbox_size v)) _ _ _ n
    (λ o. inl (daq-of _ w o.1, λ c. counted-with c channel signals (answers.Sampled (length (with_overload (outbox_size v) v.overloaded (event_packets v channel signals.items)))) a o.0))
    (λ o. inl (daq-of _ w o.1, λ c. counted-with c channel signals answers.Overrun a o.0)))
    (λ n. inr (daq-of _ w n.1, λ c. counted-with c channel signals answers.BadSignals a n.0)))
    (λ m. inr (daq-of _ w m.1, λ c. counted-with c channel signals answers.NoChannel a m.0))

-- a list that runs, n events of its channel later
record Advanced (l : DaqList) (n : ℕ) (m : DaqList) : Type 0 where
  event : m.event ≡ l.event
  prescaler : m.prescaler ≡ l.prescaler
  running : m.running ≡ true
  since : m.since ≡ (l.since + n) % l.prescaler

none-later : (l : DaqList) → l.since < l.prescaler → l.running ≡ true → Advanced l 0 l
none-later l h r = record { event = refl; prescaler = refl; running = r; since = sym (ap (λ k. k % l.prescaler) (let e : l.since + 0 ≡ l.since = omega arith in e) ∙ mod-eq_of_lt h) }

one-later : (l : DaqList) (r b : Bool) → l.since < l.prescaler → l.running ≡ true → r ≡ true → Advanced l (if b then 1 else 0) (if (r && b) then record l { since = (l.since + 1) % l.prescaler } else l)
one-later l true true h r e = record { event = refl; prescaler = refl; running = r; since = refl }
one-later l true false h r e = none-later l h r
one-later l false b h r e = cc

-- a list that runs is one that there is
there : (v : DaqValue) (i : ℕ) → (list_at v i).running ≡ true → i < length v.lists
there v i r = lt_of_not-le (λ (past : length v.lists ≤ i). (let e : false ≡ true = ap (λ (l : DaqList). l.running) (sym (get_or_past v.lists i no_list past)) ∙ r in cc))

mapped : (f : DaqList → DaqList) (v : DaqValue) (i : ℕ) → i < length v.lists → get_or (map f v.lists) i no_list ≡ f (list_at v i)
mapped f v i h = get_or-map f v.lists i no_list no_list h

list-in : (x y : DaqValue) (i : ℕ) → x ≡ y → list_at x i ≡ list_at y i
list-in x y i e = ap (λ (d : DaqValue). list_at d i) e

-- what a step does to a list that runs
Steps : SlaveValue → Request → Answer → SlaveValue → ℕ → Type 0
Steps v q a w i = Advanced (list_at v.daq i) (counted_as (list_at v.daq i).event q a) (list_at w.daq i)

kept-steps : (v : SlaveValue) (q : Request) (a : Answer) (w : SlaveValue) (i : ℕ) → (list_at v.daq i).since < (list_at v.daq i).prescaler → (list_at v.daq i).running ≡ true → counted_as (list_at v.daq i).event q a ≡ 0 → w.daq ≡ v.daq → Steps v q a w i
unfolding Steps
kept-steps v q a w i h r n e =
    let l = list_at v.daq i in
    subst (λ (k : ℕ). Advanced l k (list_at w.daq i)) (sym n) (subst (λ (m : DaqList). Advanced l 0 m) (sym (list-in w.daq v.daq i e)) (none-later l h r))

event-steps : (v : SlaveValue) (channel : ℕ) (signals : ArrayVec ℕ) (a : Answer) (w : SlaveValue) (i : ℕ) → (list_at v.daq i).since < (list_at v.daq i).prescaler → (list_at v.daq i).running ≡ true → Fires channel signals.items v a w → Steps v (requests.Event channel signals) a w i
unfolding Steps Counted
event-steps v channel signals a w i h r k =
    let l = list_at v.daq i in
    elim (event-counts v channel signals a w k) [
      | inl c ↦
          (let now : list_at w.daq i ≡ counted channel l = list-in w.daq (after_event channel v.daq) i c.0 ∙ mapped (counted channel) v.daq i (there v.daq i r) in
          subst (λ (n : ℕ). Advanced l n (list_at w.daq i)) (sym (c.1 l.event)) (subst (λ (m : DaqList). Advanced l (if l.event == channel then 1 else 0) m) (sym now) (one-later l l.running (l.event == channel) h r r)))
      | inr c ↦ kept-steps v (requests.Event channel signals) a w i h r (c.1 l.event) c.0
    ]

step-advances : (v : SlaveValue) (q : Request) (a : Answer) (w : SlaveValue) (i : ℕ) → (list_at v.daq i).since < (list_at v.daq i).prescaler → (list_at v.daq i).running ≡ true → KeepsLists q → Answers v q a w → Steps v q a w i
step-advances v (requests.Command p) a w i h r b k = kept-steps v (requests.Command p) a w i h r refl (lists-kept v (requests.Command p) a w b tt (λ e. cc) k)
step-advances v (requests.Event channel signals) a w i h r b k = event-steps v channel signals a w i h r k
step-advances v requests.Drain a w i h r b k = kept-steps v requests.Drain a w i h r refl (lists-kept v requests.Drain a w tt tt (λ e. cc) k)
step-advances v requests.FinishStore a w i h r b k = kept-steps v requests.FinishStore a w i h r refl (lists-kept v requests.FinishStore a w tt tt (λ e. cc) k)
step-advances v requests.Hangup a w i h r b k = absurd b
step-advances v (requests.Time time) a w i h r b k = kept-steps v (requests.Time time) a w i h r refl (lists-kept v (requests.Time time) a w tt tt (λ e. cc) k)
step-advances v (requests.Signals place bytes) a w i h r b k = kept-steps v (requests.Signals place bytes) a w i h r refl (lists-kept v (requests.Signals place bytes) a w tt tt (λ e. cc) k)

two-later : (l m x : DaqList) (n k : ℕ) → Advanced l n m → Advanced m k x → Advanced l (n + k) x
two-later l m x n k f g = record {
  event = g.event ∙ f.event;
  prescaler = g.prescaler ∙ f.prescaler;
  running = g.running;
  since = g.since
      ∙ ap (λ s. (s + k) % m.prescaler) f.since
      ∙ ap (λ p. ((l.since + n) % l.prescaler + k) % p) f.prescaler
      ∙ mod-add-mod (l.since + n) l.prescaler k
      ∙ ap (λ s. s % l.prescaler) (let e : l.since + n + k ≡ l.since + (n + k) = omega arith in e);
}

run-advances : (v : SlaveValue) (xs : List Exchange) (w : SlaveValue) (i : ℕ) → (list_at v.daq i).since < (list_at v.daq i).prescaler → (list_at v.daq i).running ≡ true → All (λ (x : Exchange). KeepsLists x.request) xs → Run v xs w → Advanced (list_at v.daq i) (events_of (list_at v.daq i).event xs) (list_at w.daq i)
unfolding Steps
run-advances v [] w i h r b k = subst (λ (m : DaqList). Advanced (list_at v.daq i) 0 m) (sym (list-in w.daq v.daq i (daq-of v w k))) (none-later (list_at v.daq i) h r)
run-advances v (x ∷ xs) w i h r b k =
    let l = list_at v.daq i in
    let m = list_at k.0.daq i in
    let one : Advanced l (counted_as l.event x.request x.answer) m = step-advances v x.request x.answer k.0 i h r (b zero x (omega arith)) k.1 in
    let below : m.since < m.prescaler = subst (λ (p : ℕ). m.since < p) (sym one.prescaler) (subst (λ (s : ℕ). s < l.prescaler) (sym one.since) (mod_below (l.since + counted_as l.event x.request x.answer) l.prescaler (omega (arith, h)))) in
    let rest : Advanced m (events_of m.event xs) (list_at w.daq i) = run-advances k.0 xs w i below one.running (λ j d short. b (suc j) d (omega arith)) k.2 in
    two-later l m (list_at w.daq i) (counted_as l.event x.request x.answer) (events_of l.event xs) one (subst (λ (e : ℕ). Advanced m (events_of e xs) (list_at w.daq i)) one.event rest)

due-after : (l m : DaqList) (n : ℕ) → l.since ≡ 0 → Advanced l n m → due l.event m ≡ (n % l.prescaler == 0)
due-after l m n z f =
    ap (λ (r : Bool). (r && (m.event == l.event)) && (m.since == 0)) f.running
    ∙ ap (λ (b : Bool). b && (m.since == 0)) (equal m.event l.event f.event)
    ∙ ap (λ s. s == 0) (f.since ∙ ap (λ s. s % l.prescaler) (let e : l.since + n ≡ n = omega (arith, z) in e))

-- a list that was started: it runs, and no event of its channel came since
record Begun (l m : DaqList) : Type 0 where
  event : m.event ≡ l.event
  prescaler : m.prescaler ≡ l.prescaler
  running : m.running ≡ true
  since : m.since ≡ 0

begun-due : (l : DaqList) (u : SlaveValue) (xs : List Exchange) (w : SlaveValue) (i : ℕ) → 1 ≤ l.prescaler → Begun l (list_at u.daq i) → All (λ (x : Exchange). KeepsLists x.request) xs → Run u xs w → due l.event (list_at w.daq i) ≡ (events_of l.event xs % l.prescaler == 0)
begun-due l u xs w i p f b k =
    let m = list_at u.daq i in
    let below : m.since < m.prescaler = subst (λ (n : ℕ). m.since < n) (sym f.prescaler) (subst (λ (s : ℕ). s < l.prescaler) (sym f.since) (omega (arith, p))) in
    let late : due m.event (list_at w.daq i) ≡ (events_of m.event xs % m.prescaler == 0) = due-after m (list_at w.daq i) (events_of m.event xs) f.since (run-advances u xs w i below f.running b k) in
    subst (λ (n : ℕ). due l.event (list_at w.daq i) ≡ (events_of l.event xs % n == 0)) f.prescaler (subst (λ (e : ℕ). due e (list_at w.daq i) ≡ (events_of e xs % m.prescaler == 0)) f.event late)

prescaled : (v : SlaveValue) (i : ℕ) → IsSlave v → i < length v.daq.lists → 1 ≤ (list_at v.daq i).prescaler
prescaled v i h below = (h.lists.daq.each i no_list below).prescaler_least

-- START_STOP_DAQ_LIST of this mode isn't refused for want of the list
switch-below : (v u : SlaveValue) (mode i : ℕ) (bytes : List ℕ) → Accepts v (commands.StartStopDaqList mode i) bytes u → i < length v.daq.lists
switch-below v u mode i bytes h =
    let k = accepted (commands.StartStopDaqList mode i) v bytes u h in
    let a = none-holds ((nat_lt 2 mode, ModeNotValid) ∷ (lacks_list v.daq i, OutOfRange) ∷ (not (mode == 0) && has_large_odt (layout_of v) (list_at v.daq i), DaqConfig) ∷ []) (none-refused _ k.allowed) in
    is_below _ _ a.1.0

switch-after : (v u : SlaveValue) (mode i : ℕ) (bytes : List ℕ) → Accepts v (commands.StartStopDaqList mode i) bytes u → list_at u.daq i ≡ switched mode (list_at v.daq i)
switch-after v u mode i bytes h =
    ap (λ (x : SlaveValue). list_at x.daq i) (accepted (commands.StartStopDaqList mode i) v bytes u h).after
    ∙ get_or-set_same v.daq.lists i (switched mode (list_at v.daq i)) no_list (switch-below v u mode i bytes h)

-- A list that START_STOP_DAQ_LIST starts is due at the first event of its channel, and then at each p-th, p being its
-- prescaler.
pub started-due : (v u : SlaveValue) (i : ℕ) (bytes : List ℕ) (xs : List Exchange) (w : SlaveValue) → IsSlave v → Accepts v (commands.StartStopDaqList 1 i) bytes u → All (λ (x : Exchange). KeepsLists x.request) xs → Run u xs w → due (list_at v.daq i).event (list_at w.daq i) ≡ (events_of (list_at v.daq i).event xs % (list_at v.daq i).prescaler == 0)
started-due v u i bytes xs w h a b k =
    begun-due (list_at v.daq i) u xs w i (prescaled v i h (switch-below v u 1 i bytes a))
    (subst (λ (m : DaqList). Begun (list_at v.daq i) m) (sym (switch-after v u 1 i bytes a)) (record { event = refl; prescaler = refl; running = refl; since = refl }))
    b k

-- a list that is selected is one that there is
chosen-there : (v : DaqValue) (i : ℕ) → (list_at v i).selected ≡ true → i < length v.lists
chosen-there v i r = lt_of_not-le (λ (past : length v.lists ≤ i). (let e : false ≡ true = ap (λ (l : DaqList). l.selected) (sym (get_or_past v.lists i no_list past)) ∙ r in cc))

chosen-begins : (l : DaqList) (s : Bool) → s ≡ true → Begun l (record (if not s then l else record l { running = true; since = 0 }) { selected = false })
chosen-begins l true e = record { event = refl; prescaler = refl; running = refl; since = refl }
chosen-begins l false e = cc

-- START_STOP_SYNCH does so for each list that is selected
pub chosen-due : (v u : SlaveValue) (i : ℕ) (bytes : List ℕ) (xs : List Exchange) (w : SlaveValue) → IsSlave v → (list_at v.daq i).selected ≡ true → Accepts v (commands.StartStopSynch 1) bytes u → All (λ (x : Exchange). KeepsLists x.request) xs → Run u xs w → due (list_at v.daq i).event (list_at w.daq i) ≡ (events_of (list_at v.daq i).event xs % (list_at v.daq i).prescaler == 0)
chosen-due v u i bytes xs w h s a b k =
    let l = list_at v.daq i in
    let below = chosen-there v.daq i s in
    let now : list_at u.daq i ≡ record (synchronised 1 l) { selected = false } =
    ap (λ (x : SlaveValue). list_at x.daq i) (accepted (commands.StartStopSynch 1) v bytes u a).after
    ∙ mapped (λ (x : DaqList). record (synchronised 1 x) { selected = false }) v.daq i below in
    begun-due l u xs w i (prescaled v i h below) (subst (λ (m : DaqList). Begun l m) (sym now) (chosen-begins l l.selected s)) b k

-- a list that is stopped

still-counted : (l : DaqList) (r b : Bool) (n : ℕ) → r ≡ false → (if (r && b) then record l { since = n } else l) ≡ l
still-counted l true b n e = cc
still-counted l false b n e = refl

still-mapped : (c : ℕ) (lists : List DaqList) (i : ℕ) → (get_or lists i no_list).running ≡ false → get_or (map (counted c) lists) i no_list ≡ get_or lists i no_list
still-mapped c [] i r = refl
still-mapped c (l ∷ lists) zero r = still-counted l l.running (l.event == c) ((l.since + 1) % l.prescaler) r
still-mapped c (l ∷ lists) (suc i) r = still-mapped c lists i r

step-still : (v : SlaveValue) (q : Request) (a : Answer) (w : SlaveValue) (i : ℕ) → (list_at v.daq i).running ≡ false → KeepsLists q → Answers v q a w → list_at w.daq i ≡ list_at v.daq i
unfolding Counted
step-still v (requests.Command p) a w i r b k = list-in w.daq v.daq i (lists-kept v (requests.Command p) a w b tt (λ e. cc) k)
step-still v (requests.Event channel signals) a w i r b k =
    elim (event-counts v channel signals a w k) [
      | inl c ↦ list-in w.daq (after_event channel v.daq) i c.0 ∙ still-mapped channel v.daq.lists i r
      | inr c ↦ list-in w.daq v.daq i c.0
    ]
step-still v requests.Drain a w i r b k = list-in w.daq v.daq i (lists-kept v requests.Drain a w tt tt (λ e. cc) k)
step-still v requests.FinishStore a w i r b k = list-in w.daq v.daq i (lists-kept v requests.FinishStore a w tt tt (λ e. cc) k)
step-still v requests.Hangup a w i r b k = absurd b
step-still v (requests.Time time) a w i r b k = list-in w.daq v.daq i (lists-kept v (requests.Time time) a w tt tt (λ e. cc) k)
step-still v (requests.Signals place bytes) a w i r b k = list-in w.daq v.daq i (lists-kept v (requests.Signals place bytes) a w tt tt (λ e. cc) k)

run-still : (v : SlaveValue) (xs : List Exchange) (w : SlaveValue) (i : ℕ) → (list_at v.daq i).running ≡ false → All (λ (x : Exchange). KeepsLists x.request) xs → Run v xs w → list_at w.daq i ≡ list_at v.daq i
run-still v [] w i r b k = list-in w.daq v.daq i (daq-of v w k)
run-still v (x ∷ xs) w i r b k =
    let one : list_at k.0.daq i ≡ list_at v.daq i = step-still v x.request x.answer k.0 i r (b zero x (omega arith)) k.1 in
    run-still k.0 xs w i (ap (λ (l : DaqList). l.running) one ∙ r) (λ j d short. b (suc j) d (omega arith)) k.2 ∙ one

-- a list that doesn't run is due at no event
still-due : (u : SlaveValue) (i channel : ℕ) (xs : List Exchange) (w : SlaveValue) → (list_at u.daq i).running ≡ false → All (λ (x : Exchange). KeepsLists x.request) xs → Run u xs w → due channel (list_at w.daq i) ≡ false
still-due u i channel xs w off b k =
    let l = list_at w.daq i in
    ap (λ (r : Bool). (r && (l.event == channel)) && (l.since == 0)) (ap (λ (m : DaqList). m.running) (run-still u xs w i off b k) ∙ off)

-- a list that START_STOP_DAQ_LIST stops is due at no event
pub stopped-due : (v u : SlaveValue) (i channel : ℕ) (bytes : List ℕ) (xs : List Exchange) (w : SlaveValue) → Accepts v (commands.StartStopDaqList 0 i) bytes u → All (λ (x : Exchange). KeepsLists x.request) xs → Run u xs w → due channel (list_at w.daq i) ≡ false
stopped-due v u i channel bytes xs w a b k =
    still-due u i channel xs w (ap (λ (l : DaqList). l.running) (switch-after v u 0 i bytes a)) b k

chosen-ends : (l : DaqList) (s : Bool) → s ≡ true → (record (if not s then l else record l { running = false; since = 0 }) { selected = false }).running ≡ false
chosen-ends l true e = refl
chosen-ends l false e = cc

-- START_STOP_SYNCH of mode 2 stops each list that is selected
pub chosen-stopped : (v u : SlaveValue) (i channel : ℕ) (bytes : List ℕ) (xs : List Exchange) (w : SlaveValue) → (list_at v.daq i).selected ≡ true → Accepts v (commands.StartStopSynch 2) bytes u → All (λ (x : Exchange). KeepsLists x.request) xs → Run u xs w → due channel (list_at w.daq i) ≡ false
chosen-stopped v u i channel bytes xs w s a b k =
    let l = list_at v.daq i in
    let now : list_at u.daq i ≡ record (synchronised 2 l) { selected = false } =
    ap (λ (x : SlaveValue). list_at x.daq i) (accepted (commands.StartStopSynch 2) v bytes u a).after
    ∙ mapped (λ (x : DaqList). record (synchronised 2 x) { selected = false }) v.daq i (chosen-there v.daq i s) in
    still-due u i channel xs w (ap (λ (m : DaqList). m.running) now ∙ chosen-ends l l.selected s) b k

all-end : (xs : List DaqList) (i : ℕ) → (get_or (map (λ (x : DaqList). record (synchronised 0 x) { selected = false }) xs) i no_list).running ≡ false
all-end [] i = refl
all-end (x ∷ xs) zero = refl
all-end (x ∷ xs) (suc i) = all-end xs i

-- START_STOP_SYNCH of mode 0 stops all lists
pub all-stopped : (v u : SlaveValue) (i channel : ℕ) (bytes : List ℕ) (xs : List Exchange) (w : SlaveValue) → Accepts v (commands.StartStopSynch 0) bytes u → All (λ (x : Exchange). KeepsLists x.request) xs → Run u xs w → due channel (list_at w.daq i) ≡ false
all-stopped v u i channel bytes xs w a b k = still-due u i channel xs w (ap (λ (x : SlaveValue). (list_at x.daq i).running) (accepted (commands.StartStopSynch 0) v bytes u a).after ∙ all-end v.daq.lists i) b k

both : (a b c : Bool) → ((a && b) && c) ≡ true → (a ≡ true) × (b ≡ true)
both true true c h = (refl, refl)
both true false c h = cc
both false b c h = cc

same : (n m : ℕ) → (n == m) ≡ true → n ≡ m
same n m h = grind (arith, nat_tests, h)

-- a list that is due runs, and is one of the event's channel
pub due-runs : (l : DaqList) (channel : ℕ) → due channel l ≡ true → (l.running ≡ true) × (l.event ≡ channel)
due-runs l channel h = let t = both l.running (l.event == channel) (l.since == 0) h in (t.0, same l.event channel t.1)
