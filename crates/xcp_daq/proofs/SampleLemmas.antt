-- The bytes of ODTs, and their packets.
use Rattle.std.proofs.Common.{◌≡◌, ℕ, suc, All, ◌+◌, ◌<◌, ◌≤◌, Bool, true, false, List, [], ◌∷◌, ◌++◌, length, take, drop, get_or, Option, Some, None, ap, sym, ◌∙◌, refl, arith, append_assoc, length-append, if◌then◌else◌}
use Rattle.std.proofs.lemmas.Grind.{flat_map-append}
use Rattle.std.proofs.lemmas.List.{take_more, length-take}
use Rattle.std.proofs.lemmas.List.Sums.{sum_by_push, sum_by-cons, sum_by-take-le}
use Rattle.arrayvec.specs.ArrayVec.{ArrayVec}
use Rattle.xcp_memory.specs.Pages.{PagesValue, SegmentPages, ecu_page}
use Rattle.xcp_memory.specs.ComputedAccess.{lies_inside, controller_bytes, bytes_by, segment_of}
use Rattle.xcp_daq.specs.declared.element.Element.{Element}
use Rattle.xcp_daq.specs.DaqLists.{entry_size, odt_size}
use Rattle.xcp_daq.specs.Pools.{parts}
use Rattle.xcp_daq.specs.Sample.{entry_bytes, odt_bytes, packet_of, stamped_packet, odt_packets, packets_from, stamped_packets}
use Rattle.xcp_daq.proofs.OdtLemmas.{parts_step}

short_range : (page_of : SegmentPages → List ℕ) (o : Option ℕ) (pages : PagesValue) (a n : ℕ) → length (bytes_by page_of o pages a n) ≤ n
short_range page_of (Some i) pages a n = simp length-take (omega arith)
short_range page_of None pages a n = simp length-take (omega arith)

short_by : (b : Bool) (bytes : List ℕ) (n : ℕ) → length bytes ≤ n → length (if b then bytes else []) ≤ n
short_by true bytes n h = h
short_by false bytes n h = omega arith

-- an entry gives no more bytes than its size
pub short_entry : (pages : PagesValue) (entry : Option Element) → length (entry_bytes pages entry) ≤ entry_size entry
short_entry pages None = omega arith
short_entry pages (Some e) = short_by (lies_inside pages.layout e.address e.size) (controller_bytes pages e.address e.size) e.size (short_range ecu_page (segment_of pages.layout e.address e.size) pages e.address e.size)

-- an ODT gives no more bytes than its size
pub short_odt : (pages : PagesValue) (odt : List (Option Element)) → length (odt_bytes pages odt) ≤ odt_size odt
short_odt pages [] = omega arith
short_odt pages (x ∷ xs) = omega (arith, length-append (entry_bytes pages x) (odt_bytes pages xs), sum_by-cons entry_size x xs, short_entry pages x, short_odt pages xs)

-- the bytes of one more entry
pub longer_odt : (pages : PagesValue) (es : List (Option Element)) (i : ℕ) → i < length es → length (odt_bytes pages (take (i + 1) es)) ≡ length (odt_bytes pages (take i es)) + length (entry_bytes pages (get_or es i None))
longer_odt pages es i h =
    let x : Option Element = get_or es i None in
    omega (arith, ap (λ (xs : List (Option Element)). length (odt_bytes pages xs)) (take_more es i None h), ap length (flat_map-append (entry_bytes pages) (take i es) (x ∷ [])), length-append (odt_bytes pages (take i es)) (odt_bytes pages (x ∷ [])), length-append (entry_bytes pages x) [])

-- an ODT gives one packet at most: none without bytes, and one with some
pub one_packet : (pid : ℕ) (bytes : List ℕ) → length (packet_of pid bytes) ≤ 1
one_packet pid [] = omega arith
one_packet pid (b ∷ bytes) = omega arith

-- no bytes give no packet
pub no_packet : (pid : ℕ) (bytes : List ℕ) → length bytes ≡ 0 → length (packet_of pid bytes) ≡ 0
no_packet pid [] h = refl
no_packet pid (b ∷ bytes) h = absurd (omega arith)

-- bytes, one at least, give one packet
pub some_packet : (pid : ℕ) (bytes : List ℕ) → 1 ≤ length bytes → length (packet_of pid bytes) ≡ 1
some_packet pid [] h = absurd (omega arith)
some_packet pid (b ∷ bytes) h = refl

same_packet : (p q : ℕ) (bytes : List ℕ) → length (packet_of p bytes) ≡ length (packet_of q bytes)
same_packet p q [] = refl
same_packet p q (b ∷ bytes) = refl

-- ODTs give as many packets whatever the first PID
pub same_packets : (pages : PagesValue) (p q : ℕ) (odts : List (List (Option Element))) → length (packets_from pages p odts) ≡ length (packets_from pages q odts)
same_packets pages p q [] = refl
same_packets pages p q (o ∷ odts) = omega (arith, length-append (odt_packets pages (p, o)) (packets_from pages (p + 1) odts), length-append (odt_packets pages (q, o)) (packets_from pages (q + 1) odts), same_packet p q (odt_bytes pages o), same_packets pages (p + 1) (q + 1) odts)

-- with a time stamp there are as many
same_stamped_packet : (p q : ℕ) (s t bytes : List ℕ) → length (stamped_packet p s bytes) ≡ length (stamped_packet q t bytes)
same_stamped_packet p q s t [] = refl
same_stamped_packet p q s t (b ∷ bytes) = refl

-- ODTs give as many packets with a time stamp in the first, whatever the first PID and the stamp
pub same_stamped : (pages : PagesValue) (p q : ℕ) (s t : List ℕ) (odts : List (List (Option Element))) → length (stamped_packets pages p s odts) ≡ length (stamped_packets pages q t odts)
same_stamped pages p q s t [] = refl
same_stamped pages p q s t (o ∷ odts) = omega (arith, length-append (stamped_packet p s (odt_bytes pages o)) (packets_from pages (p + 1) odts), length-append (stamped_packet q t (odt_bytes pages o)) (packets_from pages (q + 1) odts), same_stamped_packet p q s t (odt_bytes pages o), same_packets pages (p + 1) (q + 1) odts)

-- a list without a time stamp gives the packets of its ODTs
pub unstamped : (pages : PagesValue) (p : ℕ) (odts : List (List (Option Element))) → stamped_packets pages p [] odts ≡ packets_from pages p odts
unstamped pages p [] = refl
unstamped pages p (o ∷ odts) = refl

-- and as many with one
pub stamped_count : (pages : PagesValue) (p q : ℕ) (s : List ℕ) (odts : List (List (Option Element))) → length (packets_from pages p odts) ≡ length (stamped_packets pages q s odts)
stamped_count pages p q s odts = ap length (sym (unstamped pages p odts)) ∙ same_stamped pages p q [] s odts

-- how many packets one ODT and those behind it give
pub count_step : (pages : PagesValue) (ns : List ℕ) (es : List (Option Element)) (j at : ℕ) → j < length ns → length (packets_from pages 0 (parts (drop j ns) (drop at es))) ≡ length (packet_of 0 (odt_bytes pages (take (get_or ns j 0) (drop at es)))) + length (packets_from pages 0 (parts (drop (j + 1) ns) (drop (at + get_or ns j 0) es)))
count_step pages ns es j at h =
    let odt : List (Option Element) = take (get_or ns j 0) (drop at es) in
    let rest : List (List (Option Element)) = parts (drop (j + 1) ns) (drop (at + get_or ns j 0) es) in
    omega (arith, ap (λ (odts : List (List (Option Element))). length (packets_from pages 0 odts)) (parts_step ns es j at h), length-append (odt_packets pages (0, odt)) (packets_from pages (0 + 1) rest), same_packets pages (0 + 1) 0 rest)

-- there is room for one more entry
pub room_for : (pages : PagesValue) (es : List (Option Element)) (i : ℕ) → i < length es → length (odt_bytes pages (take i es)) + entry_size (get_or es i None) ≤ odt_size es
room_for pages es i h = omega (arith, short_odt pages (take i es), ap odt_size (take_more es i None h), sum_by_push entry_size (take i es) (get_or es i None), sum_by-take-le entry_size es (i + 1))

-- the packets of one ODT, and of those behind it
pub packets_step : (pages : PagesValue) (out out' all : List (ArrayVec ℕ)) (ns : List ℕ) (es : List (Option Element)) (first j at : ℕ) → j < length ns → out ++ packets_from pages (first + j) (parts (drop j ns) (drop at es)) ≡ all → out' ≡ out ++ packet_of (first + j) (odt_bytes pages (take (get_or ns j 0) (drop at es))) → out' ++ packets_from pages (first + (j + 1)) (parts (drop (j + 1) ns) (drop (at + get_or ns j 0) es)) ≡ all
packets_step pages out out' all ns es first j at h e f =
    let rest : List (List (Option Element)) = parts (drop (j + 1) ns) (drop (at + get_or ns j 0) es) in
    let packet : List (ArrayVec ℕ) = packet_of (first + j) (odt_bytes pages (take (get_or ns j 0) (drop at es))) in
    ap (λ (xs : List (ArrayVec ℕ)). xs ++ packets_from pages (first + (j + 1)) rest) f
    ∙ append_assoc out packet (packets_from pages (first + (j + 1)) rest)
    ∙ ap (λ n. out ++ (packet ++ packets_from pages n rest)) (omega arith)
    ∙ ap (λ (odts : List (List (Option Element))). out ++ packets_from pages (first + j) odts) (sym (parts_step ns es j at h))
    ∙ e

-- what holds of all ODTs holds of those behind the first
pub rest_all : (P : List (Option Element) → Type 0) (ns : List ℕ) (es : List (Option Element)) → 0 < length ns → All P (parts ns es) → All P (parts (drop 1 ns) (drop (get_or ns 0 0) es))
rest_all P [] es some h = absurd (omega arith)
rest_all P (n ∷ ns) es some h = λ k d below. h (suc k) d (omega arith)
