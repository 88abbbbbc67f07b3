-- The time, and slaves without a clock.
use Rattle.std.proofs.Common.{◌≡◌, ◌≢◌, ◌<◌, ◌≤◌, ◌⊎◌, ◌↔◌, inl, inr, ℕ, zero, suc, ◌+◌, Bool, true, false, ◌&&◌, ◌||◌, not, List, [], ◌∷◌, length, Option, Some, None, Result, Ok, Err, ap, sym, ◌∙◌, refl, subst, arith, nat_lt, All}
use Rattle.std.specs.Prelude.{◌==◌, ◌*◌, ◌%◌, if◌then◌else◌, MatchBool}
use Rattle.std.proofs.lemmas.Bool.Decides.{nat_tests}
use Rattle.std.proofs.lemmas.List.{get_or_past}
use Rattle.arrayvec.specs.ArrayVec.{ArrayVec}
use Rattle.xcp_packet.specs.ByteOrder.{byte_at}
use Rattle.xcp_packet.specs.Decoding.{Decodes}
use Rattle.xcp_packet.specs.Rows.{Meets, first_holding}
use Rattle.xcp_packet.specs.TimeStamps.{stamp_size, stamp_bytes}
use Rattle.xcp_packet.specs.declared.Stamp.{Stamp}
use Rattle.xcp_packet.specs.declared.Stamp.TheVariants.{Without}
use Rattle.xcp_packet.specs.declared.Command.{Command}
use Rattle.xcp_packet.specs.declared.Command.TheVariants as commands
use Rattle.xcp_packet.specs.declared.Refuse.{Refuse}
use Rattle.xcp_packet.specs.declared.Reply.{Reply}
use Rattle.xcp_packet.specs.declared.Reply.TheVariants as replies
use Rattle.xcp_packet.specs.declared.Code.TheVariants.{CmdUnknown}
use Rattle.xcp_packet.proofs.DecodingLaws.{decodes_once}
use Rattle.xcp_memory.specs.declared.Clock.{Clock}
use Rattle.xcp_memory.specs.Layout.{LayoutValue}
use Rattle.xcp_memory.specs.Pages.{PagesValue}
use Rattle.xcp_daq.specs.declared.element.Element.{Element}
use Rattle.xcp_daq.specs.DaqLists.{DaqList, DaqValue, any_large, first_size, odt_size, greatest_size, has_large_odt, has_stamp, list_at, no_list}
use Rattle.xcp_daq.specs.DaqInfo.{daq_properties, timestamp_mode, timestamp_ticks}
use Rattle.xcp_daq.specs.Configuring.{is_mode}
use Rattle.xcp_daq.specs.Sample.{stamp_of}
use Rattle.xcp_slave.specs.declared.request.Request.{Request}
use Rattle.xcp_slave.specs.declared.request.Request.TheVariants as requests
use Rattle.xcp_slave.specs.declared.exchange.Exchange.{Exchange}
use Rattle.xcp_slave.specs.Outcomes.{Answer}
use Rattle.xcp_slave.specs.declared.outcome.Outcome.TheVariants as answers
use Rattle.xcp_slave.specs.SlaveValue.{SlaveValue, layout_of, noblock, ended}
use Rattle.xcp_slave.specs.Rows.{row}
use Rattle.xcp_slave.specs.Run.{Run}
use Rattle.xcp_slave.specs.SampledBytes.{ListPackets, OdtPackets}
use Rattle.xcp_slave.specs.SlaveClock.{IsTimeless}
use Rattle.xcp_slave.specs.SlaveInvariant.{IsSlave, IsStampOf}
use Rattle.xcp_slave.specs.Step.{Answers, Heeds, Executes, answer_of, sent_reply, later, found_by}
use Rattle.xcp_slave.proofs.UnaffectedPartLaws.{packet-part, drains-part, fires-part, stores-part}
use Rattle.xcp_slave.proofs.StepLaws.{hands-part}

-- the later of two times is one of them, and no earlier than either
pub is-later : (now time : ℕ) → (time ≤ later now time) × (now ≤ later now time) × ((later now time ≡ time) ⊎ (later now time ≡ now))
is-later now time =
    elim (nat_lt now time) as (λ b. nat_lt now time ≡ b → (time ≤ (if b then time else now)) × (now ≤ (if b then time else now)) × (((if b then time else now) ≡ time) ⊎ ((if b then time else now) ≡ now))) [
      | true ↦ λ e. (omega arith, grind (arith, nat_tests, e), inl refl)
      | false ↦ λ e. (grind (arith, nat_tests, e), omega arith, inr refl)
    ] refl

-- where a time is told, the slave's is that one or the one that it had, and no earlier than either
pub time-told : (v : SlaveValue) (time : ℕ) (a : Answer) (w : SlaveValue) → Answers v (requests.Time time) a w → (time ≤ w.time) × (v.time ≤ w.time) × ((w.time ≡ time) ⊎ (w.time ≡ v.time))
time-told v time a w k = subst (λ (n : ℕ). (time ≤ n) × (v.time ≤ n) × ((n ≡ time) ⊎ (n ≡ v.time))) (sym (ap (λ (x : SlaveValue). x.time) k.1)) (is-later v.time time)

timed : SlaveValue → ℕ → SlaveValue
timed v n = record v { time = n }

-- it changes nothing but the time, and has no answer
pub time-alone : (v : SlaveValue) (time : ℕ) (a : Answer) (w : SlaveValue) → Answers v (requests.Time time) a w → (a ≡ answers.Silent) × (w ≡ record v { time = w.time })
unfolding timed
time-alone v time a w k = (k.0, k.1 ∙ ap (timed v) (sym (ap (λ (x : SlaveValue). x.time) k.1)))

row-time : (c : Command) (v : SlaveValue) → (row c (found_by c v)).after.time ≡ v.time
row-time (commands.DownloadNext remaining bytes) v = refl
row-time _ v = refl

-- no other request changes the time
pub time-others : (v : SlaveValue) (q : Request) (a : Answer) (w : SlaveValue) → IsTimeless q → Answers v q a w → w.time ≡ v.time
time-others v (requests.Command p) a w h k = packet-part (λ x. x.time) (λ n. Unit {0}) v p.items a w refl (λ c n. row-time c v) tt k
time-others v (requests.Event channel signals) a w h k = fires-part (λ x. x.time) channel signals.items v a w (λ o lost. refl) k
time-others v requests.Drain a w h k = drains-part (λ x. x.time) v.outbox v a w (λ o. refl) k
time-others v requests.FinishStore a w h k = stores-part (λ x. x.time) v a w refl k
time-others v requests.Hangup a w h k = ap (λ (x : SlaveValue). x.time) k.1
time-others v (requests.Time time) a w h k = absurd h
time-others v (requests.Signals place bytes) a w h k = hands-part (λ x. x.time) place bytes.items v a w refl k

time-step : (v : SlaveValue) (q : Request) (a : Answer) (w : SlaveValue) → Answers v q a w → v.time ≤ w.time
time-step v (requests.Time time) a w k = (time-told v time a w k).1
time-step v (requests.Command p) a w k = let e = time-others v (requests.Command p) a w tt k in omega (arith, e)
time-step v (requests.Event channel signals) a w k = let e = time-others v (requests.Event channel signals) a w tt k in omega (arith, e)
time-step v requests.Drain a w k = let e = time-others v requests.Drain a w tt k in omega (arith, e)
time-step v requests.FinishStore a w k = let e = time-others v requests.FinishStore a w tt k in omega (arith, e)
time-step v requests.Hangup a w k = let e = time-others v requests.Hangup a w tt k in omega (arith, e)
time-step v (requests.Signals place bytes) a w k = let e = time-others v (requests.Signals place bytes) a w tt k in omega (arith, e)

-- no run sets the time back
pub time-run : (v : SlaveValue) (xs : List Exchange) (w : SlaveValue) → Run v xs w → v.time ≤ w.time
time-run v [] w r = let e = ap (λ (x : SlaveValue). x.time) r in omega (arith, e)
time-run v (x ∷ xs) w r =
    let one = time-step v x.request x.answer r.0 r.1 in
    let more = time-run r.0 xs w r.2 in
    omega arith

-- a list without time stamps

-- its time stamp has no bytes
pub no-stamp : (pages : PagesValue) (time : ℕ) (l : DaqList) → l.stamp ≡ Without → stamp_of pages time l ≡ []
no-stamp pages time l e = ap (λ (s : Stamp). stamp_bytes pages.layout.order s time) e

-- where the time stamp has no bytes, the packets of a list are just those of its ODTs
pub same-list : (pages : PagesValue) (pid : ℕ) (odts : List (List (Option Element))) (packets : List (ArrayVec ℕ)) → ListPackets pages pid [] odts packets ↔ OdtPackets pages pid odts packets
same-list pages pid [] packets = (λ h. h, λ h. h)
same-list pages pid (odt ∷ odts) packets = (λ h. h, λ h. h)

either-false : (b : Bool) → (b || false) ≡ b
either-false true = refl
either-false false = refl

covered-by : (b r c : Bool) → c ≡ b → ((b || r) || c) ≡ (b || r)
covered-by true r c e = refl
covered-by false r c e = ap (λ (x : Bool). r || x) e ∙ either-false r

covered : (greatest : ℕ) (odts : List (List (Option Element))) → (any_large greatest odts || nat_lt greatest (0 + first_size odts)) ≡ any_large greatest odts
covered greatest [] = let e : nat_lt greatest 0 ≡ false = grind (arith, nat_tests) in e
covered greatest (o ∷ odts) =
    let same : 0 + odt_size o ≡ odt_size o = omega arith in
    covered-by (nat_lt greatest (odt_size o)) (any_large greatest odts) (nat_lt greatest (0 + odt_size o)) (ap (nat_lt greatest) same)

-- whether an ODT of it is too large depends on the ODTs alone
pub room-without : (layout : LayoutValue) (l : DaqList) → l.stamp ≡ Without → has_large_odt layout l ≡ any_large (greatest_size layout) l.odts
room-without layout l e = ap (λ (s : Stamp). any_large (greatest_size layout) l.odts || nat_lt (greatest_size layout) (stamp_size s + first_size l.odts)) e ∙ covered (greatest_size layout) l.odts

-- a layout without a clock

without : (l : LayoutValue) (s : Stamp) → l.clock.stamp ≡ Without → IsStampOf l s → s ≡ Without
without l s e (inl h) = h
without l s e (inr h) = h ∙ e

-- no list of its slave has time stamps
pub no-lists-stamped : (v : SlaveValue) (i : ℕ) → IsSlave v → (layout_of v).clock.stamp ≡ Without → (list_at v.daq i).stamp ≡ Without
no-lists-stamped v i h e =
    elim (nat_lt i (length v.daq.lists)) as (λ b. nat_lt i (length v.daq.lists) ≡ b → (list_at v.daq i).stamp ≡ Without) [
      | true ↦ λ t. without (layout_of v) (list_at v.daq i).stamp e (h.lists.room i no_list (grind (arith, nat_tests, t))).stamp
      | false ↦ λ t. ap (λ (l : DaqList). l.stamp) (get_or_past v.daq.lists i no_list (grind (arith, nat_tests, t)))
    ] refl

mode-by : (a b : Bool) → (a || (b && false)) ≡ a
mode-by true b = refl
mode-by false true = refl
mode-by false false = refl

-- the one mode of lists is 0
pub no-modes : (layout : LayoutValue) (mode : ℕ) → layout.clock.stamp ≡ Without → is_mode layout mode ≡ (mode == 0)
no-modes layout mode e = ap (λ (s : Stamp). (mode == 0) || ((mode == 0x10) && has_stamp s)) e ∙ mode-by (mode == 0) (mode == 0x10)

refused-by : (v : SlaveValue) (r : Result (Option Reply) Reply) (a : Answer) (w : SlaveValue) → (layout_of v).clock.stamp ≡ Without → Meets (row commands.GetDaqClock (noblock v)) (noblock v) r w → a ≡ answer_of (layout_of v) (sent_reply r) → (a ≡ answers.Packets ((0xFE ∷ 0x20 ∷ []) ∷ [])) × (w ≡ noblock v)
refused-by v (Ok o) a w e m s =
    let first : first_holding ((not (has_stamp (layout_of v).clock.stamp), replies.Error CmdUnknown) ∷ []) ≡ Some (replies.Error CmdUnknown) = ap (λ (t : Stamp). first_holding ((not (has_stamp t), replies.Error CmdUnknown) ∷ [])) e in
    let bad : None ≡ Some (replies.Error CmdUnknown) = sym m.0 ∙ first in
    cc
refused-by v (Err x) a w e m s =
    let first : first_holding ((not (has_stamp (layout_of v).clock.stamp), replies.Error CmdUnknown) ∷ []) ≡ Some (replies.Error CmdUnknown) = ap (λ (t : Stamp). first_holding ((not (has_stamp t), replies.Error CmdUnknown) ∷ [])) e in
    let both : Some x ≡ Some (replies.Error CmdUnknown) = sym m.0 ∙ first in
    let same : x ≡ replies.Error CmdUnknown = cc in
    (s ∙ ap (λ (y : Reply). answer_of (layout_of v) (Some y)) same, m.1)

taken-by : (v : SlaveValue) (b : Bool) (a : Answer) (w : SlaveValue) (P Q : Type 0) → b ≡ true → MatchBool (b || false) P Q → P
taken-by v true a w P Q e k = k
taken-by v false a w P Q e k = cc

some-bytes : (p : List ℕ) → p ≢ [] → 1 ≤ length p
some-bytes [] h = absurd (h refl)
some-bytes (b ∷ p) h = omega arith

-- within a session GET_DAQ_CLOCK is an unknown command, and only ends a block that is under way
pub no-clock : (v : SlaveValue) (p : ArrayVec ℕ) (a : Answer) (w : SlaveValue) → (layout_of v).clock.stamp ≡ Without → v.connected ≡ true → byte_at 0 p.items ≡ 0xDC → p.items ≢ [] → Answers v (requests.Command p) a w → (a ≡ answers.Packets ((0xFE ∷ 0x20 ∷ []) ∷ [])) × (w ≡ noblock v)
no-clock v p a w e on code some k =
    let spelt : Decodes (layout_of v).order p.items (Ok commands.GetDaqClock) = (record { first = code; enough = some-bytes p.items some }, tt) in
    let is : k.0 ≡ Ok commands.GetDaqClock = decodes_once (layout_of v).order p.items k.0 (Ok commands.GetDaqClock) k.1 spelt in
    let heeded : Heeds v (Ok commands.GetDaqClock) a w = subst (λ (d : Result Command Refuse). Heeds v d a w) is k.2 in
    let done = taken-by v v.connected a w (Executes commands.GetDaqClock v a w) _ on heeded in
    refused-by v done.0 a w e done.1 done.2

-- DAQ_PROPERTIES has bits 0 and 1, and bit 7 where the layout asks to be told of lost samples
pub plain-properties : (layout : LayoutValue) → layout.clock.stamp ≡ Without → daq_properties layout ≡ 0x03 + (if layout.extras.tells_overload then 0x80 else 0)
plain-properties layout e = ap (λ (s : Stamp). 0x03 + (if has_stamp s then 0x10 else 0) + (if layout.extras.tells_overload then 0x80 else 0)) e

-- TIMESTAMP_MODE and TIMESTAMP_TICKS are 0
pub plain-resolution : (layout : LayoutValue) → layout.clock.stamp ≡ Without → (timestamp_mode layout.clock ≡ 0) × (timestamp_ticks layout.clock ≡ 0)
plain-resolution layout e = (
  ap (λ (s : Stamp). if has_stamp s then stamp_size s + 0x10 * layout.clock.unit else 0) e,
  ap (λ (s : Stamp). if has_stamp s then layout.clock.ticks else 0) e,
)
