-- The packets that wait.
use Rattle.std.proofs.Common.{◌≡◌, ℕ, zero, suc, ◌+◌, ◌<◌, ◌≤◌, Bool, true, false, List, [], ◌∷◌, ◌++◌, length, take, get_or, Option, refl, subst, arith, length-append, All, inl, inr, nat_lt}
use Rattle.std.specs.Prelude.{◌==◌, if◌then◌else◌}
use Rattle.std.specs.List.{flat_map, enumerate_from}
use Rattle.std.proofs.lemmas.List.Elements.{All-append}
use Rattle.arrayvec.specs.ArrayVec.{ArrayVec}
use Rattle.xcp_packet.specs.declared.Stamp.{Stamp}
use Rattle.xcp_packet.specs.TimeStamps.{stamp_size}
use Rattle.xcp_packet.proofs.TimeStampLaws.{length_stamp}
use Rattle.xcp_memory.specs.declared.Class.{Class}
use Rattle.xcp_memory.specs.ClassLimits.{limits_of}
use Rattle.xcp_memory.specs.Layout.{LayoutValue}
use Rattle.xcp_memory.specs.Pages.{PagesValue}
use Rattle.xcp_daq.specs.declared.element.Element.{Element}
use Rattle.xcp_daq.specs.DaqLists.{DaqValue, DaqList, all_odts, odt_size, first_size, first_pid}
use Rattle.xcp_daq.specs.Sample.{due, odt_bytes, packet_of, stamped_packet, odt_packets, packets_from, stamped_packets, stamp_of, list_packets, sampled}
use Rattle.xcp_daq.proofs.DueListLemmas.{first_true}
use Rattle.xcp_daq.proofs.SampleLemmas.{short_odt}
use Rattle.xcp_slave.specs.Step.{store_event, overload_event, with_overload}
use Rattle.xcp_slave.specs.SlaveInvariant.{FitsMaxDto, IsLists, IsDataPacket, IsWaiting}

none : {A : Type 0} (P : A → Type 0) → All P []
none P = λ k d below. absurd (omega arith)

one : {A : Type 0} (P : A → Type 0) (x : A) → P x → All P (x ∷ [])
one P x h zero d below = h
one P x h (suc k) d below = absurd (omega arith)

packet : (l : LayoutValue) (pid : ℕ) (bytes : List ℕ) → pid < (limits_of l.class).odts → length bytes < l.max_dto → All (IsDataPacket l) (packet_of pid bytes)
packet l pid [] h k = none (IsDataPacket l)
packet l pid (b ∷ bytes) h k = one (IsDataPacket l) (record { items = pid ∷ b ∷ bytes }) (record { pid = h; least = omega arith; most = omega arith })

packets : (l : LayoutValue) (pages : PagesValue) (first : ℕ) (odts : List (List (Option Element))) → first + length odts ≤ (limits_of l.class).odts → All (λ odt. odt_size odt < l.max_dto) odts → All (IsDataPacket l) (packets_from pages first odts)
packets l pages first [] h k = none (IsDataPacket l)
packets l pages first (o ∷ odts) h k =
    let small = k zero [] (omega arith) in
    All-append (IsDataPacket l) (odt_packets pages (first, o)) (packets_from pages (first + 1) odts)
    (packet l first (odt_bytes pages o) (omega arith) (omega (arith, short_odt pages o)))
    (packets l pages (first + 1) odts (omega arith) (λ j d below. k (suc j) d (omega arith)))

-- with a time stamp
stamped : (l : LayoutValue) (pid : ℕ) (stamp bytes : List ℕ) → pid < (limits_of l.class).odts → length stamp + length bytes < l.max_dto → All (IsDataPacket l) (stamped_packet pid stamp bytes)
stamped l pid stamp [] h k = none (IsDataPacket l)
stamped l pid stamp (b ∷ bytes) h k =
    let long = length-append stamp (b ∷ bytes) in
    one (IsDataPacket l) (record { items = pid ∷ (stamp ++ b ∷ bytes) }) (record { pid = h; least = omega arith; most = omega arith })

-- the packets of a list
list-packets : (l : LayoutValue) (pages : PagesValue) (first : ℕ) (stamp : Stamp) (bytes : List ℕ) (odts : List (List (Option Element))) → first + length odts ≤ (limits_of l.class).odts → length bytes ≡ stamp_size stamp → All (λ odt. odt_size odt < l.max_dto) odts → stamp_size stamp + first_size odts < l.max_dto → All (IsDataPacket l) (stamped_packets pages first bytes odts)
list-packets l pages first stamp bytes [] h e k m = none (IsDataPacket l)
list-packets l pages first stamp bytes (o ∷ odts) h e k m =
    All-append (IsDataPacket l) (stamped_packet first bytes (odt_bytes pages o)) (packets_from pages (first + 1) odts)
    (stamped l first bytes (odt_bytes pages o) (omega arith) (omega (arith, short_odt pages o)))
    (packets l pages (first + 1) odts (omega arith) (λ j d below. k (suc j) d (omega arith)))

-- the ODTs of a list and of those before it
pid_room : (lists : List DaqList) (i : ℕ) (d : DaqList) → i < length lists → length (all_odts (take i lists)) + length (get_or lists i d).odts ≤ length (all_odts lists)
pid_room [] i d h = absurd (omega arith)
pid_room (x ∷ lists) zero d h = omega (arith, length-append x.odts (all_odts lists))
pid_room (x ∷ lists) (suc i) d h = omega (arith, length-append x.odts (all_odts lists), length-append x.odts (all_odts (take i lists)), pid_room lists i d (omega arith))

by_due : (l : LayoutValue) (b : Bool) (ps : List (ArrayVec ℕ)) → (b ≡ true → All (IsDataPacket l) ps) → All (IsDataPacket l) (if b then ps else [])
by_due l true ps h = h refl
by_due l false ps h = none (IsDataPacket l)

from : (l : LayoutValue) (channel time : ℕ) (pages : PagesValue) (v : DaqValue) (i : ℕ) (lists : List DaqList) → ((k : ℕ) (d : DaqList) → k < length lists → FitsMaxDto l (get_or lists k d) × (length (all_odts (take (i + k) v.lists)) + length (get_or lists k d).odts ≤ (limits_of l.class).odts)) → All (IsDataPacket l) (flat_map (list_packets channel time pages v) (enumerate_from i lists))
from l channel time pages v i [] h = none (IsDataPacket l)
from l channel time pages v i (x ∷ lists) h =
    let here = h zero x (omega arith) in
    let pid : first_pid i v + length x.odts ≤ (limits_of l.class).odts = subst (λ (n : ℕ). length (all_odts (take n v.lists)) + length x.odts ≤ (limits_of l.class).odts) (omega arith) here.1 in
    All-append (IsDataPacket l) (list_packets channel time pages v (i, x)) (flat_map (list_packets channel time pages v) (enumerate_from (i + 1) lists))
    (by_due l (due channel x) (stamped_packets pages (first_pid i v) (stamp_of pages time x) x.odts)
    (λ e. (let runs = first_true x.running (x.event == channel) (x.since == 0) e in list-packets l pages (first_pid i v) x.stamp (stamp_of pages time x) x.odts pid (length_stamp pages.layout.order x.stamp time) (here.0.fits runs) (here.0.first runs))))
    (from l channel time pages v (i + 1) lists (λ k d below. (
      (h (suc k) d (omega arith)).0,
      subst (λ (n : ℕ). length (all_odts (take n v.lists)) + length (get_or lists k d).odts ≤ (limits_of l.class).odts) (omega arith) (h (suc k) d (omega arith)).1,
    )))

-- the packets of an event are data packets
pub sample : (l : LayoutValue) (channel time : ℕ) (pages : PagesValue) (v : DaqValue) → IsLists l v → All (IsDataPacket l) (sampled channel time pages v)
sample l channel time pages v h =
    from l channel time pages v 0 v.lists (λ k d below.
    (let fact : length (all_odts (take k v.lists)) + length (get_or v.lists k d).odts ≤ (limits_of l.class).odts = omega (arith, pid_room v.lists k d below, subst (λ (class : Class). length (all_odts v.lists) ≤ (limits_of class).odts) h.class h.daq.odts) in
    let same : k ≡ 0 + k = omega arith in
    (h.room k d below, subst (λ (n : ℕ). length (all_odts (take n v.lists)) + length (get_or v.lists k d).odts ≤ (limits_of l.class).odts) same fact)))

beside-waits : (room : Bool) (l : LayoutValue) (p : ArrayVec ℕ) (ps : List (ArrayVec ℕ)) → l.extras.tells_overload ≡ true → All (IsDataPacket l) (p ∷ ps) → All (IsWaiting l) (if room then overload_event ∷ p ∷ ps else p ∷ ps)
beside-waits true l p ps h k = All-append (IsWaiting l) (overload_event ∷ []) (p ∷ ps) (one (IsWaiting l) overload_event (inr (inl (h, refl)))) (λ j d below. inr (inr (k j d below)))
beside-waits false l p ps h k = λ j d below. inr (inr (k j d below))

-- what an event puts, its data packets and the event packet of a lost sample, where the layout asks for it, may wait
told-waits : (l : LayoutValue) (overloaded : Bool) (ps : List (ArrayVec ℕ)) → (overloaded ≡ true → l.extras.tells_overload ≡ true) → All (IsDataPacket l) ps → All (IsWaiting l) (with_overload (limits_of l.class).packets overloaded ps)
told-waits l false ps h k = λ j d below. inr (inr (k j d below))
told-waits l true [] h k = none (IsWaiting l)
told-waits l true (p ∷ ps) h k = beside-waits (nat_lt (length (p ∷ ps)) (limits_of l.class).packets) l p ps (h refl) k

-- packets that may wait, and what an event puts behind them, may all wait
pub sample-waits : (l : LayoutValue) (overloaded : Bool) (o ps : List (ArrayVec ℕ)) → (overloaded ≡ true → l.extras.tells_overload ≡ true) → All (IsWaiting l) o → All (IsDataPacket l) ps → All (IsWaiting l) (o ++ with_overload (limits_of l.class).packets overloaded ps)
sample-waits l overloaded o ps t h k = All-append (IsWaiting l) o (with_overload (limits_of l.class).packets overloaded ps) h (told-waits l overloaded ps t k)

-- the same with the event packet of a store behind them
pub event-waits : (l : LayoutValue) (o : List (ArrayVec ℕ)) → All (IsWaiting l) o → All (IsWaiting l) (o ++ store_event ∷ [])
event-waits l o h = All-append (IsWaiting l) o (store_event ∷ []) h (one (IsWaiting l) store_event (inl refl))

-- of packets that may wait, those behind the first may too
pub rest-waits : (l : LayoutValue) (p : ArrayVec ℕ) (o : List (ArrayVec ℕ)) → All (IsWaiting l) (p ∷ o) → All (IsWaiting l) o
rest-waits l p o h = λ k d below. h (suc k) d (omega arith)
