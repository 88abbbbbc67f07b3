-- How many packets an event gives, and how long they are.
use Rattle.std.proofs.Common.{◌≡◌, ℕ, zero, suc, ◌+◌, ◌<◌, ◌≤◌, Bool, true, false, List, [], ◌∷◌, ◌++◌, length, get_or, Option, refl, arith, length-append, All}
use Rattle.std.specs.Prelude.{◌==◌, if◌then◌else◌}
use Rattle.std.specs.List.{flat_map, enumerate_from}
use Rattle.std.proofs.lemmas.List.Elements.{All-append}
use Rattle.arrayvec.specs.ArrayVec.{ArrayVec}
use Rattle.xcp_memory.specs.ClassLimits.{limits_of}
use Rattle.xcp_memory.specs.Pages.{PagesValue}
use Rattle.xcp_packet.specs.declared.Stamp.{Stamp}
use Rattle.xcp_packet.specs.TimeStamps.{stamp_size}
use Rattle.xcp_packet.proofs.TimeStampLaws.{length_stamp}
use Rattle.xcp_daq.specs.declared.element.Element.{Element}
use Rattle.xcp_daq.specs.DaqLists.{DaqValue, DaqList, all_odts, odt_size, first_pid}
use Rattle.xcp_daq.specs.DaqInvariant.{IsList, IsDaq, FitsPackets}
use Rattle.xcp_daq.specs.Sample.{due, odt_bytes, packet_of, stamped_packet, odt_packets, packets_from, stamped_packets, stamp_of, list_packets, sampled}
use Rattle.xcp_daq.proofs.DueListLemmas.{first_true}
use Rattle.xcp_daq.proofs.SampleLemmas.{one_packet, short_odt, stamped_count, same_stamped}

-- a data packet has 1 to 255 bytes
abbrev IsPacket : ArrayVec ℕ → Type 0
IsPacket p = (1 ≤ length p.items) × (length p.items ≤ 255)

-- a fact of one element
all_one : (p : ArrayVec ℕ) → IsPacket p → All IsPacket (p ∷ [])
all_one p h zero d below = h
all_one p h (suc k) d below = absurd (omega arith)

short_packet : (pid : ℕ) (bytes : List ℕ) → length bytes ≤ 254 → All IsPacket (packet_of pid bytes)
short_packet pid [] h = λ k d below. absurd (omega arith)
short_packet pid (b ∷ bytes) h = all_one (record { items = pid ∷ b ∷ bytes }) (omega arith, omega arith)

few_from : (pages : PagesValue) (first : ℕ) (odts : List (List (Option Element))) → length (packets_from pages first odts) ≤ length odts
few_from pages first [] = omega arith
few_from pages first (o ∷ odts) = omega (arith, length-append (odt_packets pages (first, o)) (packets_from pages (first + 1) odts), one_packet first (odt_bytes pages o), few_from pages (first + 1) odts)

tail_all : (P : List (Option Element) → Type 0) (o : List (Option Element)) (odts : List (List (Option Element))) → All P (o ∷ odts) → P o × All P odts
tail_all P o odts h = (h zero [] (omega arith), λ k d below. h (suc k) d (omega arith))

short_from : (pages : PagesValue) (first : ℕ) (odts : List (List (Option Element))) → All (λ odt. odt_size odt ≤ 254) odts → All IsPacket (packets_from pages first odts)
short_from pages first [] h = λ k d below. absurd (omega arith)
short_from pages first (o ∷ odts) h =
    let both = tail_all (λ odt. odt_size odt ≤ 254) o odts h in
    let small = both.0 in
    All-append IsPacket (odt_packets pages (first, o)) (packets_from pages (first + 1) odts) (short_packet first (odt_bytes pages o) (omega (arith, short_odt pages o))) (short_from pages (first + 1) odts both.1)

short_stamped_packet : (pid : ℕ) (stamp bytes : List ℕ) → length stamp + length bytes ≤ 254 → All IsPacket (stamped_packet pid stamp bytes)
short_stamped_packet pid stamp [] h = λ k d below. absurd (omega arith)
short_stamped_packet pid stamp (b ∷ bytes) h = all_one (record { items = pid ∷ (stamp ++ b ∷ bytes) }) (omega arith, omega (arith, length-append stamp (b ∷ bytes)))

short_stamped : (pages : PagesValue) (first : ℕ) (stamp : Stamp) (bytes : List ℕ) (odts : List (List (Option Element))) → length bytes ≡ stamp_size stamp → FitsPackets stamp odts → All IsPacket (stamped_packets pages first bytes odts)
short_stamped pages first stamp bytes [] e h = λ k d below. absurd (omega arith)
short_stamped pages first stamp bytes (o ∷ odts) e h =
    let room = h.first in
    All-append IsPacket (stamped_packet first bytes (odt_bytes pages o)) (packets_from pages (first + 1) odts) (short_stamped_packet first bytes (odt_bytes pages o) (omega (arith, short_odt pages o))) (short_from pages (first + 1) odts (tail_all (λ odt. odt_size odt ≤ 254) o odts h.each).1)

few_by : (b : Bool) (packets : List (ArrayVec ℕ)) (n : ℕ) → length packets ≤ n → length (if b then packets else []) ≤ n
few_by true packets n h = h
few_by false packets n h = omega arith

all_by : (b : Bool) (packets : List (ArrayVec ℕ)) → (b ≡ true → All IsPacket packets) → All IsPacket (if b then packets else [])
all_by true packets h = h refl
all_by false packets h = λ k d below. absurd (omega arith)

-- no more packets than ODTs
few_packets : (channel time : ℕ) (pages : PagesValue) (v : DaqValue) (i : ℕ) (lists : List DaqList) → length (flat_map (list_packets channel time pages v) (enumerate_from i lists)) ≤ length (all_odts lists)
few_packets channel time pages v i [] = omega arith
few_packets channel time pages v i (l ∷ lists) =
    let stamp : List ℕ = stamp_of pages time l in
    let here : List (ArrayVec ℕ) = stamped_packets pages (first_pid i v) stamp l.odts in
    let few : length here ≤ length l.odts = omega (arith, stamped_count pages 0 (first_pid i v) stamp l.odts, few_from pages 0 l.odts) in
    omega (arith, length-append (list_packets channel time pages v (i, l)) (flat_map (list_packets channel time pages v) (enumerate_from (i + 1) lists)), length-append l.odts (all_odts lists), few_by (due channel l) here (length l.odts) few, few_packets channel time pages v (i + 1) lists)

-- each within its bounds
short_packets : (channel time : ℕ) (pages : PagesValue) (v : DaqValue) (i : ℕ) (lists : List DaqList) → ((k : ℕ) (d : DaqList) → k < length lists → IsList (get_or lists k d)) → All IsPacket (flat_map (list_packets channel time pages v) (enumerate_from i lists))
short_packets channel time pages v i [] h = λ k d below. absurd (omega arith)
short_packets channel time pages v i (l ∷ lists) h =
    let lawful : IsList l = h zero l (omega arith) in
    let stamp : List ℕ = stamp_of pages time l in
    All-append IsPacket (list_packets channel time pages v (i, l)) (flat_map (list_packets channel time pages v) (enumerate_from (i + 1) lists))
    (all_by (due channel l) (stamped_packets pages (first_pid i v) stamp l.odts) (λ e. short_stamped pages (first_pid i v) l.stamp stamp l.odts (length_stamp pages.layout.order l.stamp time) (lawful.fits (first_true l.running (l.event == channel) (l.since == 0) e))))
    (short_packets channel time pages v (i + 1) lists (λ k d below. h (suc k) d (omega arith)))

-- where the lists are lawful, an event gives no more packets than the class has ODTs, each of 1 to 255 bytes
pub bounded : (channel time : ℕ) (pages : PagesValue) (v : DaqValue) → IsDaq v → (length (sampled channel time pages v) ≤ (limits_of v.class).odts) × All IsPacket (sampled channel time pages v)
bounded channel time pages v h = (omega (arith, h.odts, few_packets channel time pages v 0 v.lists), short_packets channel time pages v 0 v.lists h.each)

same_count_by : (b : Bool) (xs ys : List (ArrayVec ℕ)) → length xs ≡ length ys → length (if b then xs else []) ≡ length (if b then ys else [])
same_count_by true xs ys h = h
same_count_by false xs ys h = refl

same_count : (channel s t : ℕ) (pages : PagesValue) (v : DaqValue) (i : ℕ) (lists : List DaqList) → length (flat_map (list_packets channel s pages v) (enumerate_from i lists)) ≡ length (flat_map (list_packets channel t pages v) (enumerate_from i lists))
same_count channel s t pages v i [] = refl
same_count channel s t pages v i (l ∷ lists) =
    let first : ℕ = first_pid i v in
    let one = same_count_by (due channel l) (stamped_packets pages first (stamp_of pages s l) l.odts) (stamped_packets pages first (stamp_of pages t l) l.odts) (same_stamped pages first first (stamp_of pages s l) (stamp_of pages t l) l.odts) in
    omega (arith, length-append (list_packets channel s pages v (i, l)) (flat_map (list_packets channel s pages v) (enumerate_from (i + 1) lists)), length-append (list_packets channel t pages v (i, l)) (flat_map (list_packets channel t pages v) (enumerate_from (i + 1) lists)), one, same_count channel s t pages v (i + 1) lists)

-- how many packets an event gives doesn't hang on its time
pub any_time : (channel s t : ℕ) (pages : PagesValue) (v : DaqValue) → length (sampled channel s pages v) ≡ length (sampled channel t pages v)
any_time channel s t pages v = same_count channel s t pages v 0 v.lists
