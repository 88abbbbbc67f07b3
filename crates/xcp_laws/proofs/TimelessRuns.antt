-- Slaves whose layout has no clock, at any time.
use Rattle.std.proofs.Common.{◌≡◌, ℕ, zero, suc, ◌+◌, Bool, true, false, List, [], ◌∷◌, ◌++◌, length, map, get_or, slice_set, drop, Option, Some, None, Result, Ok, Err, inl, inr, ap, sym, ◌∙◌, refl, subst, arith, All, nat_le, nat_lt}
use Rattle.std.specs.Prelude.{◌==◌, ◌%◌, ◌&&◌, ◌||◌, not, replicate, if◌then◌else◌, MatchBool}
use Rattle.std.specs.List.{flat_map, enumerate_from}
use Rattle.std.proofs.lemmas.List.Elements.{All-head, All-tail, All-set, All-append, All-replicate, All-map}
use Rattle.arrayvec.specs.ArrayVec.{ArrayVec}
use Rattle.xcp_packet.specs.declared.Stamp.{Stamp}
use Rattle.xcp_packet.specs.declared.Stamp.TheVariants.{Without}
use Rattle.xcp_packet.specs.declared.Command.{Command}
use Rattle.xcp_packet.specs.declared.Command.TheVariants as commands
use Rattle.xcp_packet.specs.declared.Refuse.{Refuse}
use Rattle.xcp_packet.specs.declared.Refuse.TheVariants as refuses
use Rattle.xcp_packet.specs.declared.Reply.{Reply}
use Rattle.xcp_packet.specs.declared.Reply.TheVariants as replies
use Rattle.xcp_packet.specs.ByteOrder.{byte_at}
use Rattle.xcp_packet.specs.declared.Code.{Code}
use Rattle.xcp_packet.specs.declared.Code.TheVariants.{CmdUnknown}
use Rattle.xcp_packet.specs.Rows.{Meets, first_holding}
use Rattle.xcp_memory.specs.Layout.{LayoutValue}
use Rattle.xcp_memory.specs.Pages.{PagesValue}
use Rattle.xcp_memory.specs.Signals.{takes_signals}
use Rattle.xcp_daq.specs.declared.DaqElement.{DaqElement}
use Rattle.xcp_daq.specs.declared.Element.{Element}
use Rattle.xcp_daq.specs.declared.Pointer.{Pointer}
use Rattle.xcp_daq.specs.DaqLists.{DaqList, DaqValue, has_stamp, first_pid, list_at, no_list}
use Rattle.xcp_daq.specs.Configuring.{all_or_none, elements_in, moved_by, unless, write_daq_after, write_daq_refusal, write_daqs, entry_written}
use Rattle.xcp_daq.specs.Sample.{counted, due, list_packets, sampled, stamped_packets}
use Rattle.xcp_daq.specs.Starting.{selected, started, stopped, synchronised}
use Rattle.xcp_slave.specs.declared.Exchange.{Exchange}
use Rattle.xcp_slave.specs.declared.Outcome.TheVariants as answers
use Rattle.xcp_slave.specs.declared.Request.{Request}
use Rattle.xcp_slave.specs.declared.Request.TheVariants as requests
use Rattle.xcp_slave.specs.Outcomes.{Answer}
use Rattle.xcp_slave.specs.Rows.{row}
use Rattle.xcp_slave.specs.Run.{Run}
use Rattle.xcp_slave.specs.SlaveClock.{IsTimeless}
use Rattle.xcp_slave.specs.SlaveInvariant.{IsSlave, IsStampOf}
use Rattle.xcp_slave.specs.SlaveValue.{SlaveValue, layout_of, noblock}
use Rattle.xcp_slave.specs.Step.{Answers, Drains, Fires, Heeds, Samples, Stores, at_time, found_by, is_connect, outbox_size, with_event, with_overload, with_signals}
use Rattle.xcp_slave.proofs.ClockLaws.{no-stamp, time-others}
use Rattle.xcp_slave.proofs.LayoutKeptLemmas.{answers-layout}
use Rattle.xcp_slave.proofs.StepLaws.{either}
use Rattle.xcp_laws.specs.Timeless.{latest, later_by, tells_time, timeless}

-- the slave at another time
abbrev timed : SlaveValue → ℕ → SlaveValue
timed v n = record v { time = n }

same-timed : (v w : SlaveValue) (n : ℕ) → w ≡ v → timed w n ≡ timed v n
same-timed v w n e = ap (λ (x : SlaveValue). timed x n) e

-- what follows from the first case follows from it, and so for the second
each-case : (t : Bool) (P Q R S : Type 0) → (P → R) → (Q → S) → MatchBool t P Q → MatchBool t R S
each-case true P Q R S p q h = p h
each-case false P Q R S p q h = q h

-- A command's row hangs on the time in the reply to GET_DAQ_CLOCK alone, which is refused.

row-refusals : (c : Command) (v : SlaveValue) (n : ℕ) → (row c (found_by c (timed v n))).refusals ≡ (row c (found_by c v)).refusals
row-refusals (commands.DownloadNext remaining bytes) v n = refl
row-refusals _ v n = refl

row-after : (c : Command) (v : SlaveValue) (n : ℕ) → (row c (found_by c (timed v n))).after ≡ timed (row c (found_by c v)).after n
row-after (commands.DownloadNext remaining bytes) v n = refl
row-after _ v n = refl

row-reply : (c : Command) (v : SlaveValue) (n : ℕ) → (layout_of v).clock.stamp ≡ Without → first_holding (row c (found_by c v)).refusals ≡ None → (row c (found_by c (timed v n))).reply ≡ (row c (found_by c v)).reply
row-reply commands.GetDaqClock v n e h =
    let first : first_holding ((not (has_stamp (layout_of v).clock.stamp), replies.Error CmdUnknown) ∷ []) ≡ Some (replies.Error CmdUnknown) = ap (λ (t : Stamp). first_holding ((not (has_stamp t), replies.Error CmdUnknown) ∷ [])) e in
    let bad : None ≡ Some (replies.Error CmdUnknown) = sym h ∙ first in
    cc
row-reply (commands.DownloadNext remaining bytes) v n e h = refl
row-reply _ v n e h = refl

meets-timed : (c : Command) (v : SlaveValue) (n : ℕ) (x : Result (Option Reply) Reply) (w : SlaveValue) → (layout_of v).clock.stamp ≡ Without → Meets (row c (found_by c v)) (noblock v) x w → Meets (row c (found_by c (timed v n))) (noblock (timed v n)) x (timed w n)
meets-timed c v n (Ok o) w e m = (ap first_holding (row-refusals c v n) ∙ m.0, m.1 ∙ sym (row-reply c v n e m.0), same-timed _ w n m.2 ∙ sym (row-after c v n))
meets-timed c v n (Err x) w e m = (ap first_holding (row-refusals c v n) ∙ m.0, same-timed _ w n m.1)

heeds-timed : (v : SlaveValue) (n : ℕ) (d : Result Command Refuse) (a : Answer) (w : SlaveValue) → (layout_of v).clock.stamp ≡ Without → Heeds v d a w → Heeds (timed v n) d a (timed w n)
heeds-timed v n (Ok c) a w e k = each-case (v.connected || is_connect c) _ _ _ _ (λ m. (m.0, meets-timed c v n m.0 w e m.1, m.2)) (λ m. (m.0, same-timed _ w n m.1)) k
heeds-timed v n (Err refuses.Empty) a w e k = (k.0, same-timed _ w n k.1)
heeds-timed v n (Err refuses.Unknown) a w e k = each-case v.connected _ _ _ _ (λ m. (m.0, same-timed _ w n m.1)) (λ m. (m.0, same-timed _ w n m.1)) k
heeds-timed v n (Err refuses.Short) a w e k = each-case v.connected _ _ _ _ (λ m. (m.0, same-timed _ w n m.1)) (λ m. (m.0, same-timed _ w n m.1)) k

-- The sample of lists without time stamps hangs on no time.

abbrev IsPlain : DaqList → Type 0
IsPlain l = l.stamp ≡ Without

list-sampled : (channel time other : ℕ) (pages : PagesValue) (d : DaqValue) (i : ℕ) (l : DaqList) → IsPlain l → list_packets channel time pages d (i, l) ≡ list_packets channel other pages d (i, l)
list-sampled channel time other pages d i l e =
    ap (λ (s : List ℕ). if due channel l then stamped_packets pages (first_pid i d) s l.odts else []) (no-stamp pages time l e ∙ sym (no-stamp pages other l e))

lists-sampled : (channel time other : ℕ) (pages : PagesValue) (d : DaqValue) (i : ℕ) (lists : List DaqList) → All IsPlain lists → flat_map (list_packets channel time pages d) (enumerate_from i lists) ≡ flat_map (list_packets channel other pages d) (enumerate_from i lists)
lists-sampled channel time other pages d i [] h = refl
lists-sampled channel time other pages d i (l ∷ lists) h =
    ap (λ (ps : List (ArrayVec ℕ)). ps ++ flat_map (list_packets channel time pages d) (enumerate_from (i + 1) lists)) (list-sampled channel time other pages d i l (All-head IsPlain l lists h))
    ∙ ap (λ (ps : List (ArrayVec ℕ)). list_packets channel other pages d (i, l) ++ ps) (lists-sampled channel time other pages d (i + 1) lists (All-tail IsPlain l lists h))

samples-timed : (channel : ℕ) (packets : List (ArrayVec ℕ)) (v : SlaveValue) (n : ℕ) (a : Answer) (w : SlaveValue) → Samples channel packets v a w → Samples channel packets (timed v n) a (timed w n)
samples-timed channel packets v n a w k =
    each-case (nat_le (length v.outbox + length (with_overload (outbox_size v) v.overloaded packets)) (outbox_size v)) _ _ _ _ (λ m. (m.0, same-timed _ w n m.1)) (λ m. (m.0, same-timed _ w n m.1)) k

fires-timed : (channel : ℕ) (signals : List ℕ) (v : SlaveValue) (n : ℕ) (a : Answer) (w : SlaveValue) → All IsPlain v.daq.lists → Fires channel signals v a w → Fires channel signals (timed v n) a (timed w n)
fires-timed channel signals v n a w h k =
    let pages : PagesValue = (with_signals signals v).transfer.pages in
    let same : sampled channel v.time pages v.daq ≡ sampled channel n pages v.daq = lists-sampled channel v.time n pages v.daq 0 v.daq.lists h in
    each-case (nat_lt channel (length (layout_of v).events)) _ _ _ _
    (λ m. each-case (takes_signals (layout_of v) (length signals)) _ _ _ _
    (λ o. subst (λ (ps : List (ArrayVec ℕ)). Samples channel ps (with_signals signals (timed v n)) a (timed w n)) same (samples-timed channel (sampled channel v.time pages v.daq) (with_signals signals v) n a w o))
    (λ o. (o.0, same-timed _ w n o.1)) m)
    (λ m. (m.0, same-timed _ w n m.1))
    k

drains-timed : (o : List (ArrayVec ℕ)) (v : SlaveValue) (n : ℕ) (a : Answer) (w : SlaveValue) → Drains o v a w → Drains o (timed v n) a (timed w n)
drains-timed [] v n a w k = (k.0, same-timed _ w n k.1)
drains-timed (packet ∷ rest) v n a w k = (k.0, same-timed _ w n k.1)

stores-timed : (v : SlaveValue) (n : ℕ) (a : Answer) (w : SlaveValue) → Stores v a w → Stores (timed v n) a (timed w n)
stores-timed v n a w k = each-case (v.connected && nat_le (outbox_size v) (length v.outbox)) _ _ _ _ (λ m. (m.0, same-timed _ w n m.1)) (λ m. (m.0, same-timed _ w n m.1)) k

-- the layout has no clock, and no list has time stamps
record IsClockless (v : SlaveValue) : Type 0 where
  clock : (layout_of v).clock.stamp ≡ Without
  plain : All IsPlain v.daq.lists

answers-timed : (v : SlaveValue) (q : Request) (a : Answer) (w : SlaveValue) (n : ℕ) → IsClockless v → IsTimeless q → Answers v q a w → Answers (timed v n) q a (timed w n)
answers-timed v (requests.Command p) a w n h t k = (k.0, k.1, heeds-timed v n k.0 a w h.clock k.2)
answers-timed v (requests.Event channel signals) a w n h t k = fires-timed channel signals.items v n a w h.plain k
answers-timed v requests.Drain a w n h t k = drains-timed v.outbox v n a w k
answers-timed v requests.FinishStore a w n h t k = each-case v.store _ _ _ _ (stores-timed v n a w) (λ m. (m.0, same-timed _ w n m.1)) k
answers-timed v requests.Hangup a w n h t k = (k.0, same-timed _ w n k.1)
answers-timed v (requests.Time time) a w n h t k = absurd t
answers-timed v (requests.Signals place bytes) a w n h t k = each-case (nat_le (place + length bytes.items) (layout_of v).signals_length) _ _ _ _ (λ m. (m.0, same-timed _ w n m.1)) (λ m. (m.0, same-timed _ w n m.1)) k

-- a slave's lists have no time stamps but those of its clock
plain-by : (l : LayoutValue) (s : Stamp) → l.clock.stamp ≡ Without → IsStampOf l s → s ≡ Without
plain-by l s e (inl h) = h
plain-by l s e (inr h) = h ∙ e

clockless : (v : SlaveValue) → IsSlave v → (layout_of v).clock.stamp ≡ Without → IsClockless v
clockless v h e = record { clock = e; plain = λ k d below. plain-by (layout_of v) (get_or v.daq.lists k d).stamp e (h.lists.room k d below).stamp }

pub step-timed : (v : SlaveValue) (q : Request) (a : Answer) (w : SlaveValue) (time : ℕ) → IsSlave v → (layout_of v).clock.stamp ≡ Without → IsTimeless q → Answers v q a w → Answers (record v { time = time }) q a (record w { time = time })
step-timed v q a w time h e t k = answers-timed v q a w time (clockless v h e) t k

-- No step gives a list time stamps where the layout has no clock.

plain-at : (lists : List DaqList) (i : ℕ) → All IsPlain lists → IsPlain (get_or lists i no_list)
plain-at [] i h = refl
plain-at (l ∷ lists) zero h = All-head IsPlain l lists h
plain-at (l ∷ lists) (suc i) h = plain-at lists i (All-tail IsPlain l lists h)

plain-set : (d : DaqValue) (i : ℕ) (l : DaqList) → All IsPlain d.lists → l.stamp ≡ (list_at d i).stamp → All IsPlain (slice_set d.lists i l)
plain-set d i l h e = All-set IsPlain d.lists i l (e ∙ plain-at d.lists i h) h

plain-written : (o : Option Pointer) (e : Element) (d : DaqValue) → All IsPlain d.lists → All IsPlain (entry_written o e d).lists
plain-written None e d h = h
plain-written (Some p) e d h = plain-set d p.list _ h refl

-- WRITE_DAQs in turn

plain-unless : (c : Option Code) (r : Result DaqValue Code) (d : DaqValue) → All IsPlain d.lists → All IsPlain (all_or_none d r).lists → All IsPlain (all_or_none d (unless c r)).lists
plain-unless None r d h k = k
plain-unless (Some code) r d h k = h

plain-in-turn : (l : LayoutValue) (es : List DaqElement) (d u : DaqValue) → All IsPlain d.lists → All IsPlain u.lists → All IsPlain (all_or_none d (write_daqs l es u)).lists
plain-in-turn l [] d u h k = k
plain-in-turn l (e ∷ es) d u h k =
    plain-unless (write_daq_refusal l e.offset e.size e.extension e.address u) (write_daqs l es (write_daq_after e.size e.address u)) d h
    (plain-in-turn l es d (write_daq_after e.size e.address u) h (plain-written u.pointer (record { size = e.size; address = e.address }) u k))

plain-moved : (o : Option Pointer) (d : DaqValue) → All IsPlain d.lists → All IsPlain (moved_by o d).lists
plain-moved None d h = h
plain-moved (Some p) d h = h

plain-asked : (t : Bool) (s : Stamp) → s ≡ Without → (if t then Without else s) ≡ Without
plain-asked true s e = refl
plain-asked false s e = e

switched-stamp : (s t : Bool) (l : DaqList) → (if s then stopped l else (if t then started l else selected l)).stamp ≡ l.stamp
switched-stamp true t l = refl
switched-stamp false true l = refl
switched-stamp false false l = refl

synchronised-stamp : (s t u : Bool) (l : DaqList) → (if s then stopped l else (if t then l else (if u then started l else stopped l))).stamp ≡ l.stamp
synchronised-stamp true t u l = refl
synchronised-stamp false true u l = refl
synchronised-stamp false false true l = refl
synchronised-stamp false false false l = refl

counted-stamp : (t : Bool) (l : DaqList) (n : ℕ) → (if t then record l { since = n } else l).stamp ≡ l.stamp
counted-stamp true l n = refl
counted-stamp false l n = refl

no-lists : All IsPlain []
no-lists k d below = absurd (omega arith)

row-plain : (c : Command) (v : SlaveValue) → IsClockless v → All IsPlain (row c (found_by c v)).after.daq.lists
row-plain commands.Disconnect v h = no-lists
row-plain (commands.ClearDaqList list) v h = plain-set v.daq list _ h.plain refl
row-plain (commands.WriteDaq offset size extension address) v h = plain-written v.daq.pointer (record { size = size; address = address }) v.daq h.plain
row-plain (commands.WriteDaqMultiple bytes) v h =
    plain-in-turn (layout_of v) (elements_in (layout_of v).order (byte_at 0 bytes.items) (drop 1 bytes.items)) v.daq v.daq h.plain h.plain
row-plain (commands.SetDaqListMode mode list event prescaler priority) v h = All-set IsPlain v.daq.lists list _ (plain-asked (mode == 0) (layout_of v).clock.stamp h.clock) h.plain
row-plain (commands.StartStopDaqList mode list) v h = plain-set v.daq list _ h.plain (switched-stamp (mode == 0) (mode == 1) (list_at v.daq list))
row-plain (commands.StartStopSynch mode) v h =
    All-map IsPlain (λ (l : DaqList). record (synchronised mode l) { selected = false }) v.daq.lists
    (λ k d below. synchronised-stamp (mode == 0) (not (get_or v.daq.lists k d).selected) (mode == 1) (get_or v.daq.lists k d) ∙ h.plain k d below)
row-plain commands.ReadDaq v h = plain-moved v.daq.pointer v.daq h.plain
row-plain commands.FreeDaq v h = no-lists
row-plain (commands.AllocDaq count) v h = All-append IsPlain v.daq.lists (replicate count no_list) h.plain (All-replicate IsPlain count no_list refl)
row-plain (commands.AllocOdt list count) v h = plain-set v.daq list _ h.plain refl
row-plain (commands.AllocOdtEntry list odt count) v h = plain-set v.daq list _ h.plain refl
row-plain (commands.DownloadNext remaining bytes) v h = h.plain
row-plain _ v h = h.plain

led-plain : (d : DaqValue) (v w : SlaveValue) → w ≡ v → d ≡ v.daq → All IsPlain d.lists → All IsPlain w.daq.lists
led-plain d v w e same h = subst (λ (x : DaqValue). All IsPlain x.lists) (same ∙ sym (ap (λ (x : SlaveValue). x.daq) e)) h

meets-plain : (c : Command) (v : SlaveValue) (x : Result (Option Reply) Reply) (w : SlaveValue) → IsClockless v → Meets (row c (found_by c v)) (noblock v) x w → All IsPlain w.daq.lists
meets-plain c v (Ok o) w h m = led-plain (row c (found_by c v)).after.daq _ w m.2 refl (row-plain c v h)
meets-plain c v (Err x) w h m = led-plain v.daq _ w m.1 refl h.plain

heeds-plain : (v : SlaveValue) (d : Result Command Refuse) (a : Answer) (w : SlaveValue) → IsClockless v → Heeds v d a w → All IsPlain w.daq.lists
heeds-plain v (Ok c) a w h k = either (v.connected || is_connect c) _ _ _ k (λ m. meets-plain c v m.0 w h m.1) (λ m. led-plain v.daq _ w m.1 refl h.plain)
heeds-plain v (Err refuses.Empty) a w h k = led-plain v.daq _ w k.1 refl h.plain
heeds-plain v (Err refuses.Unknown) a w h k = either v.connected _ _ _ k (λ m. led-plain v.daq _ w m.1 refl h.plain) (λ m. led-plain v.daq _ w m.1 refl h.plain)
heeds-plain v (Err refuses.Short) a w h k = either v.connected _ _ _ k (λ m. led-plain v.daq _ w m.1 refl h.plain) (λ m. led-plain v.daq _ w m.1 refl h.plain)

drains-plain : (o : List (ArrayVec ℕ)) (v : SlaveValue) (a : Answer) (w : SlaveValue) → All IsPlain v.daq.lists → Drains o v a w → All IsPlain w.daq.lists
drains-plain [] v a w h k = led-plain v.daq _ w k.1 refl h
drains-plain (packet ∷ rest) v a w h k = led-plain v.daq _ w k.1 refl h

event-plain : (channel : ℕ) (lists : List DaqList) → All IsPlain lists → All IsPlain (map (counted channel) lists)
event-plain channel lists h =
    All-map IsPlain (counted channel) lists
    (λ k d below. counted-stamp ((get_or lists k d).running && ((get_or lists k d).event == channel)) (get_or lists k d) (((get_or lists k d).since + 1) % (get_or lists k d).prescaler) ∙ h k d below)

fires-plain : (channel : ℕ) (signals : List ℕ) (v : SlaveValue) (a : Answer) (w : SlaveValue) → All IsPlain v.daq.lists → Fires channel signals v a w → All IsPlain w.daq.lists
fires-plain channel signals v a w h k =
    let after : All IsPlain (with_event channel v).daq.lists = event-plain channel v.daq.lists h in
    either (nat_lt channel (length (layout_of v).events)) _ _ _ k
    (λ m. either (takes_signals (layout_of v) (length signals)) _ _ _ m
    (λ n. either (nat_le (length v.outbox + length (with_overload (outbox_size v) v.overloaded _)) (outbox_size v)) _ _ _ n (λ o. led-plain (with_event channel v).daq _ w o.1 refl after) (λ o. led-plain (with_event channel v).daq _ w o.1 refl after))
    (λ n. led-plain v.daq _ w n.1 refl h))
    (λ m. led-plain v.daq _ w m.1 refl h)

answers-plain : (v : SlaveValue) (q : Request) (a : Answer) (w : SlaveValue) → IsClockless v → Answers v q a w → All IsPlain w.daq.lists
answers-plain v (requests.Command p) a w h k = heeds-plain v k.0 a w h k.2
answers-plain v (requests.Event channel signals) a w h k = fires-plain channel signals.items v a w h.plain k
answers-plain v requests.Drain a w h k = drains-plain v.outbox v a w h.plain k
answers-plain v requests.FinishStore a w h k =
    either v.store _ _ _ k
    (λ m. either (v.connected && nat_le (outbox_size v) (length v.outbox)) _ _ _ m (λ o. led-plain v.daq _ w o.1 refl h.plain) (λ o. led-plain v.daq _ w o.1 refl h.plain))
    (λ m. led-plain v.daq _ w m.1 refl h.plain)
answers-plain v requests.Hangup a w h k = led-plain _ _ w k.1 refl no-lists
answers-plain v (requests.Time time) a w h k = led-plain v.daq _ w k.1 refl h.plain
answers-plain v (requests.Signals place bytes) a w h k =
    either (nat_le (place + length bytes.items) (layout_of v).signals_length) _ _ _ k (λ m. led-plain v.daq _ w m.1 refl h.plain) (λ m. led-plain v.daq _ w m.1 refl h.plain)

clockless-kept : (v : SlaveValue) (q : Request) (a : Answer) (w : SlaveValue) → IsClockless v → Answers v q a w → IsClockless w
clockless-kept v q a w h k = record { clock = ap (λ (l : LayoutValue). l.clock.stamp) (answers-layout v q a w k) ∙ h.clock; plain = answers-plain v q a w h k }

-- runs

abbrev exchange : Request → Answer → Exchange
exchange q a = record { request = q; answer = a }

one-left : (v : SlaveValue) (q : Request) (a : Answer) (xs : List Exchange) (m w : SlaveValue) (n : ℕ) → IsClockless v → Answers v q a m → Run (timed m n) (timeless xs) (timed w n) → Run (timed v n) (timeless (exchange q a ∷ xs)) (timed w n)
one-left v (requests.Command p) a xs m w n h k r = (timed m n, answers-timed v (requests.Command p) a m n h tt k, r)
one-left v (requests.Event channel signals) a xs m w n h k r = (timed m n, answers-timed v (requests.Event channel signals) a m n h tt k, r)
one-left v requests.Drain a xs m w n h k r = (timed m n, answers-timed v requests.Drain a m n h tt k, r)
one-left v requests.FinishStore a xs m w n h k r = (timed m n, answers-timed v requests.FinishStore a m n h tt k, r)
one-left v requests.Hangup a xs m w n h k r = (timed m n, answers-timed v requests.Hangup a m n h tt k, r)
one-left v (requests.Time time) a xs m w n h k r = subst (λ (x : SlaveValue). Run x (timeless xs) (timed w n)) (same-timed _ m n k.1) r
one-left v (requests.Signals place bytes) a xs m w n h k r = (timed m n, answers-timed v (requests.Signals place bytes) a m n h tt k, r)

run-left : (v : SlaveValue) (xs : List Exchange) (w : SlaveValue) (n : ℕ) → IsClockless v → Run v xs w → Run (timed v n) (timeless xs) (timed w n)
run-left v [] w n h r = same-timed v w n r
run-left v (x ∷ xs) w n h r = one-left v x.request x.answer xs r.0 w n h r.1 (run-left r.0 xs w n (clockless-kept v x.request x.answer r.0 h r.1) r.2)

pub run-timed : (v : SlaveValue) (xs : List Exchange) (w : SlaveValue) → IsSlave v → (layout_of v).clock.stamp ≡ Without → Run v xs w → Run v (timeless xs) (record w { time = v.time })
run-timed v xs w h e r = run-left v xs w v.time (clockless v h e) r

-- and back: the answer to a time that is put in is silence

abbrev IsQuiet : Exchange → Type 0
IsQuiet x = tells_time x.request ≡ true → x.answer ≡ answers.Silent

-- each slave from which the same run leads on, but for its time, has a run of these exchanges
abbrev HasRuns : List Exchange → ℕ → SlaveValue → Type 0
HasRuns xs n w = (u : SlaveValue) → IsClockless u → Run (timed u n) (timeless xs) w → Run u xs (timed w (latest u.time xs))

one-kept : (v : SlaveValue) (q : Request) (a : Answer) (xs : List Exchange) (w : SlaveValue) (n : ℕ) → IsClockless v → IsTimeless q → later_by v.time q ≡ v.time → HasRuns xs n w → Run (timed v n) (exchange q a ∷ timeless xs) w → Run v (exchange q a ∷ xs) (timed w (latest v.time (exchange q a ∷ xs)))
one-kept v q a xs w n h t e more r =
    let other : IsClockless (timed v n) = record { clock = h.clock; plain = h.plain } in
    let step : Answers v q a (timed r.0 v.time) = answers-timed (timed v n) q a r.0 v.time other t r.1 in
    let same : r.0 ≡ timed r.0 n = ap (timed r.0) (time-others (timed v n) q a r.0 t r.1) in
    let rest = more (timed r.0 v.time) (clockless-kept v q a (timed r.0 v.time) h step) (subst (λ (x : SlaveValue). Run x (timeless xs) w) same r.2) in
    (timed r.0 v.time, step, subst (λ (now : ℕ). Run (timed r.0 v.time) xs (timed w (latest now xs))) (sym e) rest)

one-back : (v : SlaveValue) (q : Request) (a : Answer) (xs : List Exchange) (w : SlaveValue) (n : ℕ) → IsClockless v → IsQuiet (exchange q a) → HasRuns xs n w → Run (timed v n) (timeless (exchange q a ∷ xs)) w → Run v (exchange q a ∷ xs) (timed w (latest v.time (exchange q a ∷ xs)))
one-back v (requests.Command p) a xs w n h s more r = one-kept v (requests.Command p) a xs w n h tt refl more r
one-back v (requests.Event channel signals) a xs w n h s more r = one-kept v (requests.Event channel signals) a xs w n h tt refl more r
one-back v requests.Drain a xs w n h s more r = one-kept v requests.Drain a xs w n h tt refl more r
one-back v requests.FinishStore a xs w n h s more r = one-kept v requests.FinishStore a xs w n h tt refl more r
one-back v requests.Hangup a xs w n h s more r = one-kept v requests.Hangup a xs w n h tt refl more r
one-back v (requests.Time time) a xs w n h s more r = (at_time time v, (s refl, refl), more (at_time time v) (record { clock = h.clock; plain = h.plain }) r)
one-back v (requests.Signals place bytes) a xs w n h s more r = one-kept v (requests.Signals place bytes) a xs w n h tt refl more r

runs-back : (v : SlaveValue) (xs : List Exchange) (w : SlaveValue) (n : ℕ) → IsClockless v → All IsQuiet xs → Run (timed v n) (timeless xs) w → Run v xs (timed w (latest v.time xs))
runs-back v [] w n h s r = same-timed _ w v.time r
runs-back v (x ∷ xs) w n h s r =
    one-back v x.request x.answer xs w n h (All-head IsQuiet x xs s) (λ u k m. runs-back u xs w n k (All-tail IsQuiet x xs s) m) r

pub run-back : (v : SlaveValue) (xs : List Exchange) (w : SlaveValue) → IsSlave v → (layout_of v).clock.stamp ≡ Without → All (λ (x : Exchange). tells_time x.request ≡ true → x.answer ≡ answers.Silent) xs → Run v (timeless xs) w → Run v xs (record w { time = latest v.time xs })
run-back v xs w h e s r = runs-back v xs w v.time (clockless v h e) s r
