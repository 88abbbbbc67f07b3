-- What the commands that only ask are told.
use Rattle.std.proofs.Common.{◌≡◌, ℕ, ◌+◌, ◌<◌, Bool, true, false, List, [], ◌∷◌, ◌++◌, get_or, length, Option, Some, None, refl, sym, ap, ◌∙◌, lt_of_not-le, ◌≤◌, nat_le, drop}
use Rattle.std.specs.Prelude.{◌↔◌, bit_and, slice_index, if◌then◌else◌}
use Rattle.std.proofs.lemmas.List.{get_or_past}
use Rattle.std.proofs.lemmas.List.Elements.{All-from_get_or}
use Rattle.std.proofs.lemmas.List.Folds.{list_any_at, list_any_none}
use Rattle.xcp_packet.specs.ByteOrder.{double_bytes, word_bytes}
use Rattle.xcp_packet.specs.ReplyPacket.{layout}
use Rattle.xcp_packet.specs.declared.Command.{Command}
use Rattle.xcp_packet.specs.declared.Command.TheVariants as commands
use Rattle.xcp_packet.specs.declared.Code.TheVariants.{OutOfRange}
use Rattle.xcp_packet.specs.declared.Reply.{Reply}
use Rattle.xcp_memory.specs.ClassLimits.{limits_of}
use Rattle.xcp_memory.specs.Layout.{no_event}
use Rattle.xcp_memory.specs.Pages.{no_segment, segment_at}
use Rattle.xcp_daq.specs.DaqInfo.{mode_bits}
use Rattle.xcp_daq.specs.DaqLists.{DaqList, DaqValue, any_running, has_stamp, lacks_list, list_at, no_list}
use Rattle.xcp_slave.specs.AcceptedCommands.{Accepts}
use Rattle.xcp_slave.specs.Rows.{row, status_of}
use Rattle.xcp_slave.specs.SlaveValue.{SlaveValue, layout_of}
use Rattle.xcp_slave.specs.Step.{found_by}
use Rattle.xcp_slave.proofs.AcceptedCommandLaws.{accepted}
use Rattle.xcp_slave.proofs.ListInvariantLemmas.{none-holds, is_below}
use Rattle.xcp_slave.proofs.TransferInvariantLemmas.{none-refused}

-- the bytes behind FF of the reply
abbrev pub told : SlaveValue → Option Reply → List ℕ
told v None = []
told v (Some reply) = drop 1 (layout (layout_of v).order reply)

-- a command that is accepted is told its row's reply
pub bytes-told : (c : Command) (v : SlaveValue) (bytes : List ℕ) (w : SlaveValue) → Accepts v c bytes w → bytes ≡ told v (row c (found_by c v)).reply
bytes-told c v bytes w h =
    let k = accepted c v bytes w h in
    k.sent ∙ ap (told v) (sym k.replied)

-- two bits, one for each of two facts
bits : Bool → Bool → ℕ
bits s r = (if s then 0x01 else 0) + (if r then 0x40 else 0)

first_bit : (s r : Bool) (n : ℕ) → n ≡ bits s r → (bit_and n 0x01 ≡ 0x01) ↔ (s ≡ true)
unfolding bits
first_bit true true n e = (λ h. refl, λ h. ap (λ m. bit_and m 0x01) e)
first_bit true false n e = (λ h. refl, λ h. ap (λ m. bit_and m 0x01) e)
first_bit false true n e = (λ h. let z : ◌≡◌ {A = ℕ} 0 1 = sym (ap (λ m. bit_and m 0x01) e) ∙ h in cc, λ h. cc)
first_bit false false n e = (λ h. let z : ◌≡◌ {A = ℕ} 0 1 = sym (ap (λ m. bit_and m 0x01) e) ∙ h in cc, λ h. cc)

second_bit : (s r : Bool) (n : ℕ) → n ≡ bits s r → (bit_and n 0x40 ≡ 0x40) ↔ (r ≡ true)
unfolding bits
second_bit true true n e = (λ h. refl, λ h. ap (λ m. bit_and m 0x40) e)
second_bit false true n e = (λ h. refl, λ h. ap (λ m. bit_and m 0x40) e)
second_bit true false n e = (λ h. let z : ◌≡◌ {A = ℕ} 0 0x40 = sym (ap (λ m. bit_and m 0x40) e) ∙ h in cc, λ h. cc)
second_bit false false n e = (λ h. let z : ◌≡◌ {A = ℕ} 0 0x40 = sym (ap (λ m. bit_and m 0x40) e) ∙ h in cc, λ h. cc)

no_second_bit : (s r : Bool) (n : ℕ) → n ≡ bits s r → r ≡ false → bit_and n 0x40 ≡ 0
unfolding bits
no_second_bit true true n e h = cc
no_second_bit false true n e h = cc
no_second_bit true false n e h = ap (λ m. bit_and m 0x40) e
no_second_bit false false n e h = ap (λ m. bit_and m 0x40) e

no_more_bits : (s r : Bool) (n : ℕ) → n ≡ bits s r → n ≡ bit_and n 0x41
unfolding bits
no_more_bits true true n e = e ∙ sym (ap (λ m. bit_and m 0x41) e)
no_more_bits true false n e = e ∙ sym (ap (λ m. bit_and m 0x41) e)
no_more_bits false true n e = e ∙ sym (ap (λ m. bit_and m 0x41) e)
no_more_bits false false n e = e ∙ sym (ap (λ m. bit_and m 0x41) e)

-- three bits, one for each of three facts
three : Bool → Bool → Bool → ℕ
three s t r = (if s then 0x01 else 0) + (if t then 0x10 else 0) + (if r then 0x40 else 0)

selected_bit : (s t r : Bool) (n : ℕ) → n ≡ three s t r → (bit_and n 0x01 ≡ 0x01) ↔ (s ≡ true)
unfolding three
selected_bit true true true n e = (λ h. refl, λ h. ap (λ m. bit_and m 0x1) e)
selected_bit true true false n e = (λ h. refl, λ h. ap (λ m. bit_and m 0x1) e)
selected_bit true false true n e = (λ h. refl, λ h. ap (λ m. bit_and m 0x1) e)
selected_bit true false false n e = (λ h. refl, λ h. ap (λ m. bit_and m 0x1) e)
selected_bit false true true n e = (λ h. let z : ◌≡◌ {A = ℕ} 0 0x1 = sym (ap (λ m. bit_and m 0x1) e) ∙ h in cc, λ h. cc)
selected_bit false true false n e = (λ h. let z : ◌≡◌ {A = ℕ} 0 0x1 = sym (ap (λ m. bit_and m 0x1) e) ∙ h in cc, λ h. cc)
selected_bit false false true n e = (λ h. let z : ◌≡◌ {A = ℕ} 0 0x1 = sym (ap (λ m. bit_and m 0x1) e) ∙ h in cc, λ h. cc)
selected_bit false false false n e = (λ h. let z : ◌≡◌ {A = ℕ} 0 0x1 = sym (ap (λ m. bit_and m 0x1) e) ∙ h in cc, λ h. cc)

stamped_bit : (s t r : Bool) (n : ℕ) → n ≡ three s t r → (bit_and n 0x10 ≡ 0x10) ↔ (t ≡ true)
unfolding three
stamped_bit true true true n e = (λ h. refl, λ h. ap (λ m. bit_and m 0x10) e)
stamped_bit true true false n e = (λ h. refl, λ h. ap (λ m. bit_and m 0x10) e)
stamped_bit true false true n e = (λ h. let z : ◌≡◌ {A = ℕ} 0 0x10 = sym (ap (λ m. bit_and m 0x10) e) ∙ h in cc, λ h. cc)
stamped_bit true false false n e = (λ h. let z : ◌≡◌ {A = ℕ} 0 0x10 = sym (ap (λ m. bit_and m 0x10) e) ∙ h in cc, λ h. cc)
stamped_bit false true true n e = (λ h. refl, λ h. ap (λ m. bit_and m 0x10) e)
stamped_bit false true false n e = (λ h. refl, λ h. ap (λ m. bit_and m 0x10) e)
stamped_bit false false true n e = (λ h. let z : ◌≡◌ {A = ℕ} 0 0x10 = sym (ap (λ m. bit_and m 0x10) e) ∙ h in cc, λ h. cc)
stamped_bit false false false n e = (λ h. let z : ◌≡◌ {A = ℕ} 0 0x10 = sym (ap (λ m. bit_and m 0x10) e) ∙ h in cc, λ h. cc)

running_bit : (s t r : Bool) (n : ℕ) → n ≡ three s t r → (bit_and n 0x40 ≡ 0x40) ↔ (r ≡ true)
unfolding three
running_bit true true true n e = (λ h. refl, λ h. ap (λ m. bit_and m 0x40) e)
running_bit true true false n e = (λ h. let z : ◌≡◌ {A = ℕ} 0 0x40 = sym (ap (λ m. bit_and m 0x40) e) ∙ h in cc, λ h. cc)
running_bit true false true n e = (λ h. refl, λ h. ap (λ m. bit_and m 0x40) e)
running_bit true false false n e = (λ h. let z : ◌≡◌ {A = ℕ} 0 0x40 = sym (ap (λ m. bit_and m 0x40) e) ∙ h in cc, λ h. cc)
running_bit false true true n e = (λ h. refl, λ h. ap (λ m. bit_and m 0x40) e)
running_bit false true false n e = (λ h. let z : ◌≡◌ {A = ℕ} 0 0x40 = sym (ap (λ m. bit_and m 0x40) e) ∙ h in cc, λ h. cc)
running_bit false false true n e = (λ h. refl, λ h. ap (λ m. bit_and m 0x40) e)
running_bit false false false n e = (λ h. let z : ◌≡◌ {A = ℕ} 0 0x40 = sym (ap (λ m. bit_and m 0x40) e) ∙ h in cc, λ h. cc)

no_other_bit : (s t r : Bool) (n : ℕ) → n ≡ three s t r → n ≡ bit_and n 0x51
unfolding three
no_other_bit true true true n e = e ∙ sym (ap (λ m. bit_and m 0x51) e)
no_other_bit true true false n e = e ∙ sym (ap (λ m. bit_and m 0x51) e)
no_other_bit true false true n e = e ∙ sym (ap (λ m. bit_and m 0x51) e)
no_other_bit true false false n e = e ∙ sym (ap (λ m. bit_and m 0x51) e)
no_other_bit false true true n e = e ∙ sym (ap (λ m. bit_and m 0x51) e)
no_other_bit false true false n e = e ∙ sym (ap (λ m. bit_and m 0x51) e)
no_other_bit false false true n e = e ∙ sym (ap (λ m. bit_and m 0x51) e)
no_other_bit false false false n e = e ∙ sym (ap (λ m. bit_and m 0x51) e)

first_of : (bytes : List ℕ) (n : ℕ) (more : List ℕ) → bytes ≡ n ∷ more → slice_index bytes 0 ≡ n
first_of bytes n more e = ap (λ xs. slice_index xs 0) e

-- the status

status-told : (v w : SlaveValue) (bytes : List ℕ) → Accepts v commands.GetStatus bytes w → bytes ≡ status_of v ∷ 0 ∷ 0 ∷ 0 ∷ 0 ∷ []
status-told v w bytes h = bytes-told commands.GetStatus v bytes w h

status-bits : (v w : SlaveValue) (bytes : List ℕ) → Accepts v commands.GetStatus bytes w → slice_index bytes 0 ≡ bits v.store (any_running v.daq)
unfolding bits
status-bits v w bytes h = first_of bytes (status_of v) _ (status-told v w bytes h)

pub status-store : (v w : SlaveValue) (bytes : List ℕ) → Accepts v commands.GetStatus bytes w → (bit_and (slice_index bytes 0) 0x01 ≡ 0x01) ↔ (v.store ≡ true)
status-store v w bytes h = first_bit v.store (any_running v.daq) (slice_index bytes 0) (status-bits v w bytes h)

-- a list that runs is one that there is
there : (v : DaqValue) (i : ℕ) → (list_at v i).running ≡ true → i < length v.lists
there v i r = lt_of_not-le (λ (past : length v.lists ≤ i). (let e : false ≡ true = ap (λ (l : DaqList). l.running) (sym (get_or_past v.lists i no_list past)) ∙ r in cc))

pub status-running : (v w : SlaveValue) (bytes : List ℕ) (i : ℕ) → Accepts v commands.GetStatus bytes w → (list_at v.daq i).running ≡ true → bit_and (slice_index bytes 0) 0x40 ≡ 0x40
status-running v w bytes i h e =
    let some : any_running v.daq ≡ true = list_any_at (λ (l : DaqList). l.running) v.daq.lists i no_list (there v.daq i e) e in
    (second_bit v.store (any_running v.daq) (slice_index bytes 0) (status-bits v w bytes h)).1 some

pub status-still : (v w : SlaveValue) (bytes : List ℕ) → Accepts v commands.GetStatus bytes w → ((i : ℕ) → (list_at v.daq i).running ≡ false) → bit_and (slice_index bytes 0) 0x40 ≡ 0
status-still v w bytes h still =
    let none : any_running v.daq ≡ false = list_any_none (λ (l : DaqList). l.running) v.daq.lists (All-from_get_or (λ (l : DaqList). l.running ≡ false) v.daq.lists no_list (λ i k. still i)) in
    no_second_bit v.store (any_running v.daq) (slice_index bytes 0) (status-bits v w bytes h) none

pub status-rest : (v w : SlaveValue) (bytes : List ℕ) → Accepts v commands.GetStatus bytes w → bytes ≡ bit_and (slice_index bytes 0) 0x41 ∷ 0 ∷ 0 ∷ 0 ∷ 0 ∷ []
status-rest v w bytes h =
    status-told v w bytes h
    ∙ ap (λ (n : ℕ). n ∷ 0 ∷ 0 ∷ 0 ∷ 0 ∷ []) (sym (first_of bytes (status_of v) _ (status-told v w bytes h)) ∙ no_more_bits v.store (any_running v.daq) (slice_index bytes 0) (status-bits v w bytes h))

-- the mode of a list

-- the list's mode, and behind it the rest of the reply
mode_and : SlaveValue → ℕ → ℕ → List ℕ
mode_and v i n = n ∷ 0 ∷ 0 ∷ (word_bytes (layout_of v).order (list_at v.daq i).event ++ (list_at v.daq i).prescaler ∷ (list_at v.daq i).priority ∷ [])

mode-told : (v w : SlaveValue) (i : ℕ) (bytes : List ℕ) → Accepts v (commands.GetDaqListMode i) bytes w → bytes ≡ mode_and v i (mode_bits (list_at v.daq i))
unfolding mode_and
mode-told v w i bytes h = bytes-told (commands.GetDaqListMode i) v bytes w h

mode-bits : (v w : SlaveValue) (i : ℕ) (bytes : List ℕ) → Accepts v (commands.GetDaqListMode i) bytes w → slice_index bytes 0 ≡ three (list_at v.daq i).selected (has_stamp (list_at v.daq i).stamp) (list_at v.daq i).running
unfolding mode_and three
mode-bits v w i bytes h = ap (λ xs. slice_index xs 0) (mode-told v w i bytes h)

pub mode-selected : (v w : SlaveValue) (i : ℕ) (bytes : List ℕ) → Accepts v (commands.GetDaqListMode i) bytes w → (bit_and (slice_index bytes 0) 0x01 ≡ 0x01) ↔ ((list_at v.daq i).selected ≡ true)
mode-selected v w i bytes h = selected_bit _ _ _ (slice_index bytes 0) (mode-bits v w i bytes h)

pub mode-stamped : (v w : SlaveValue) (i : ℕ) (bytes : List ℕ) → Accepts v (commands.GetDaqListMode i) bytes w → (bit_and (slice_index bytes 0) 0x10 ≡ 0x10) ↔ (has_stamp (list_at v.daq i).stamp ≡ true)
mode-stamped v w i bytes h = stamped_bit _ _ _ (slice_index bytes 0) (mode-bits v w i bytes h)

pub mode-running : (v w : SlaveValue) (i : ℕ) (bytes : List ℕ) → Accepts v (commands.GetDaqListMode i) bytes w → (bit_and (slice_index bytes 0) 0x40 ≡ 0x40) ↔ ((list_at v.daq i).running ≡ true)
mode-running v w i bytes h = running_bit _ _ _ (slice_index bytes 0) (mode-bits v w i bytes h)

pub mode-rest : (v w : SlaveValue) (i : ℕ) (bytes : List ℕ) → Accepts v (commands.GetDaqListMode i) bytes w → bytes ≡ bit_and (slice_index bytes 0) 0x51 ∷ 0 ∷ 0 ∷ (word_bytes (layout_of v).order (list_at v.daq i).event ++ (list_at v.daq i).prescaler ∷ (list_at v.daq i).priority ∷ [])
unfolding mode_and three
mode-rest v w i bytes h =
    let b = mode-bits v w i bytes h in
    mode-told v w i bytes h ∙ ap (mode_and v i) (sym b ∙ no_other_bit _ _ _ (slice_index bytes 0) b)

pub mode-there : (v w : SlaveValue) (i : ℕ) (bytes : List ℕ) → Accepts v (commands.GetDaqListMode i) bytes w → i < length v.daq.lists
mode-there v w i bytes h =
    let a = none-holds ((lacks_list v.daq i, OutOfRange) ∷ []) (none-refused _ (accepted (commands.GetDaqListMode i) v bytes w h).allowed) in
    is_below _ _ a.0

-- an event channel

pub event-told : (v w : SlaveValue) (channel : ℕ) (bytes : List ℕ) → Accepts v (commands.GetDaqEventInfo channel) bytes w → bytes ≡ 0x04 ∷ (limits_of (layout_of v).class).lists ∷ length (get_or (layout_of v).events channel no_event).name ∷ (get_or (layout_of v).events channel no_event).cycle ∷ (get_or (layout_of v).events channel no_event).unit ∷ (get_or (layout_of v).events channel no_event).priority ∷ []
event-told v w channel bytes h = bytes-told (commands.GetDaqEventInfo channel) v bytes w h

pub event-there : (v w : SlaveValue) (channel : ℕ) (bytes : List ℕ) → Accepts v (commands.GetDaqEventInfo channel) bytes w → channel < length (layout_of v).events
event-there v w channel bytes h =
    let a = none-holds ((nat_le (length (layout_of v).events) channel, OutOfRange) ∷ []) (none-refused _ (accepted (commands.GetDaqEventInfo channel) v bytes w h).allowed) in
    is_below _ _ a.0

-- a segment

pub segment-address : (v w : SlaveValue) (i mapping : ℕ) (bytes : List ℕ) → Accepts v (commands.GetSegmentInfo 0 i 0 mapping) bytes w → bytes ≡ 0 ∷ 0 ∷ 0 ∷ double_bytes (layout_of v).order (get_or (layout_of v).segments i no_segment).address
segment-address v w i mapping bytes h = bytes-told (commands.GetSegmentInfo 0 i 0 mapping) v bytes w h

pub segment-size : (v w : SlaveValue) (i mapping : ℕ) (bytes : List ℕ) → Accepts v (commands.GetSegmentInfo 0 i 1 mapping) bytes w → bytes ≡ 0 ∷ 0 ∷ 0 ∷ double_bytes (layout_of v).order (length (get_or (layout_of v).segments i no_segment).bytes)
segment-size v w i mapping bytes h = bytes-told (commands.GetSegmentInfo 0 i 1 mapping) v bytes w h

pub segment-pages : (v w : SlaveValue) (i info mapping : ℕ) (bytes : List ℕ) → Accepts v (commands.GetSegmentInfo 1 i info mapping) bytes w → bytes ≡ length (segment_at v.transfer.pages i).pages ∷ 0 ∷ 0 ∷ 0 ∷ 0 ∷ []
segment-pages v w i info mapping bytes h = bytes-told (commands.GetSegmentInfo 1 i info mapping) v bytes w h

mode-of : (b : Bool) (bytes : List ℕ) → bytes ≡ 0 ∷ (if b then 1 else 0) ∷ [] → (b ≡ true → bytes ≡ 0 ∷ 1 ∷ []) × (b ≡ false → bytes ≡ 0 ∷ 0 ∷ [])
mode-of true bytes e = (λ h. e, λ h. cc)
mode-of false bytes e = (λ h. cc, λ h. e)

freeze-told : (v w : SlaveValue) (i : ℕ) (bytes : List ℕ) → Accepts v (commands.GetSegmentMode i) bytes w → bytes ≡ 0 ∷ (if (segment_at v.transfer.pages i).freeze then 1 else 0) ∷ []
freeze-told v w i bytes h = bytes-told (commands.GetSegmentMode i) v bytes w h

pub freeze-on : (v w : SlaveValue) (i : ℕ) (bytes : List ℕ) → Accepts v (commands.GetSegmentMode i) bytes w → (segment_at v.transfer.pages i).freeze ≡ true → bytes ≡ 0 ∷ 1 ∷ []
freeze-on v w i bytes h = (mode-of (segment_at v.transfer.pages i).freeze bytes (freeze-told v w i bytes h)).0

pub freeze-off : (v w : SlaveValue) (i : ℕ) (bytes : List ℕ) → Accepts v (commands.GetSegmentMode i) bytes w → (segment_at v.transfer.pages i).freeze ≡ false → bytes ≡ 0 ∷ 0 ∷ []
freeze-off v w i bytes h = (mode-of (segment_at v.transfer.pages i).freeze bytes (freeze-told v w i bytes h)).1

-- a page number

pub page-of-controller : (v w : SlaveValue) (i : ℕ) (bytes : List ℕ) → Accepts v (commands.GetCalPage 1 i) bytes w → bytes ≡ 0 ∷ 0 ∷ (segment_at v.transfer.pages i).ecu ∷ []
page-of-controller v w i bytes h = bytes-told (commands.GetCalPage 1 i) v bytes w h

pub page-of-tool : (v w : SlaveValue) (i : ℕ) (bytes : List ℕ) → Accepts v (commands.GetCalPage 2 i) bytes w → bytes ≡ 0 ∷ 0 ∷ (segment_at v.transfer.pages i).xcp ∷ []
page-of-tool v w i bytes h = bytes-told (commands.GetCalPage 2 i) v bytes w h
