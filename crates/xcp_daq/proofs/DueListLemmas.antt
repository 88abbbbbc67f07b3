-- The packets of the lists that are due.
use Rattle.std.proofs.Common.{◌≡◌, ℕ, ◌+◌, ◌<◌, ◌≤◌, Bool, true, false, ◌&&◌, List, [], ◌∷◌, ◌++◌, length, take, drop, get_or, Option, None, ap, sym, ◌∙◌, refl, arith, append_assoc, length-append, All}
use Rattle.std.specs.Prelude.{◌==◌, if◌then◌else◌}
use Rattle.std.specs.List.{flat_map, enumerate_from}
use Rattle.std.proofs.lemmas.Grind.{flat_map-append}
use Rattle.std.proofs.lemmas.List.{take_more, take-append-drop, flat_map_more}
use Rattle.std.proofs.lemmas.List.FromFn.{get_or-enumerate_from, length-enumerate_from}
use Rattle.arrayvec.specs.ArrayVec.{ArrayVec}
use Rattle.xcp_packet.specs.TimeStamps.{stamp_bytes}
use Rattle.xcp_memory.specs.declared.Class.{Class}
use Rattle.xcp_memory.specs.Pages.{PagesValue}
use Rattle.xcp_daq.specs.declared.element.Element.{Element}
use Rattle.xcp_daq.specs.declared.mode.Mode.{Mode}
use Rattle.xcp_daq.specs.DaqLists.{DaqList, no_list, first_pid}
use Rattle.xcp_daq.specs.DaqInvariant.{IsList, FitsPackets}
use Rattle.xcp_daq.specs.Pools.{joined, list_of, lists_of, daq_of}
use Rattle.xcp_daq.specs.Sample.{due, stamped_packets, list_packets}
use Rattle.xcp_daq.proofs.DaqListLemmas.{new_mode, default_free, first_pid_is, list_of_is, length-lists}
use Rattle.xcp_daq.proofs.DaqInvariantLemmas.{mode_lawful}

-- the ODTs of a list
abbrev Os : Type 0
Os = List (List (Option Element))

-- the first of three tests
pub first_true : (a b c : Bool) → ((a && b) && c) ≡ true → a ≡ true
first_true true b c h = refl
first_true false b c h = cc

-- the ODTs of a list that is due fit packets, the first one behind the time stamp
pub due_fits : (ms : List Mode) (os : List Os) (i : ℕ) (d : Mode) (channel : ℕ) → length ms ≡ length os → i < length ms → All IsList (lists_of ms os) → (((get_or ms i d).running && ((get_or ms i d).event == channel)) && ((get_or ms i d).since == 0)) ≡ true → FitsPackets (get_or ms i d).stamp (get_or os i [])
due_fits ms os i d channel same place lawful test =
    let m : Mode = get_or ms i d in
    (mode_lawful ms os i d same lawful place).fits (first_true m.running (m.event == channel) (m.since == 0) test)

-- a list that is due gives the packets of its ODTs, the first with its time stamp
pub due_packets : (class : Class) (ms : List Mode) (os : List Os) (i : ℕ) (d : Mode) (channel time : ℕ) (pages : PagesValue) → length ms ≡ length os → i < length ms → (((get_or ms i d).running && ((get_or ms i d).event == channel)) && ((get_or ms i d).since == 0)) ≡ true → stamped_packets pages (length (joined (take i os))) (stamp_bytes pages.layout.order (get_or ms i d).stamp time) (get_or os i []) ≡ list_packets channel time pages (daq_of class ms os None None) (i, list_of (get_or ms i new_mode) (get_or os i []))
due_packets class ms os i d channel time pages same place test =
    let here : Os = get_or os i [] in
    let first : ℕ = first_pid i (daq_of class ms os None None) in
    let stamp : Mode → List ℕ = λ m. stamp_bytes pages.layout.order m.stamp time in
    let packets : List (ArrayVec ℕ) = stamped_packets pages first (stamp (get_or ms i new_mode)) here in
    let on : due channel (list_of (get_or ms i new_mode) here) ≡ true = ap (λ (m : Mode). due channel (list_of m here)) (default_free ms i new_mode d place) ∙ test in
    ap (λ n. stamped_packets pages n (stamp (get_or ms i d)) here) (sym (first_pid_is (daq_of class ms os None None) class ms os None None i refl same))
    ∙ ap (λ (m : Mode). stamped_packets pages first (stamp m) here) (sym (default_free ms i new_mode d place))
    ∙ ap (λ b. if b then packets else []) (sym on)

-- the lists before the next one have at least the ODTs of those before this one
pub joined_more : (os : List Os) (i : ℕ) → i < length os → length (joined (take i os)) ≤ length (joined (take (i + 1) os))
joined_more os i h = omega (arith, ap (λ (xs : List Os). length (joined xs)) (take_more os i [] h), ap length (flat_map-append (λ (o : Os). o) (take i os) (get_or os i [] ∷ [])), length-append (joined (take i os)) (joined (get_or os i [] ∷ [])))

-- the packets of one more list
pub packets_more : (f : ℕ × DaqList → List (ArrayVec ℕ)) (lists : List DaqList) (i : ℕ) → i < length lists → flat_map f (take i (enumerate_from 0 lists)) ++ f (i, get_or lists i no_list) ≡ flat_map f (take (i + 1) (enumerate_from 0 lists))
packets_more f lists i h =
    let all : List (ℕ × DaqList) = enumerate_from 0 lists in
    let none : ℕ × DaqList = (0, no_list) in
    let below : i < length all = omega (arith, length-enumerate_from 0 lists) in
    let next : get_or all i none ≡ (i, get_or lists i no_list) = get_or-enumerate_from 0 lists i none h ∙ ap (λ (n : ℕ). let pair : ℕ × DaqList = (n, get_or lists i no_list) in pair) (omega arith) in
    ap (λ (x : ℕ × DaqList). flat_map f (take i all) ++ f x) (sym next)
    ∙ flat_map_more f [] (take i all) (get_or all i none)
    ∙ ap (flat_map f) (sym (take_more all i none below))

-- the loop over the lists has come one further: behind what was there before
pub due_more : (f : ℕ × DaqList → List (ArrayVec ℕ)) (ms : List Mode) (os : List Os) (i : ℕ) (before out now : List (ArrayVec ℕ)) → length ms ≡ length os → i < length ms → out ≡ before ++ flat_map f (take i (enumerate_from 0 (lists_of ms os))) → now ≡ out ++ f (i, list_of (get_or ms i new_mode) (get_or os i [])) → now ≡ before ++ flat_map f (take (i + 1) (enumerate_from 0 (lists_of ms os)))
due_more f ms os i before out now same place so_far e =
    let done : List (ArrayVec ℕ) = flat_map f (take i (enumerate_from 0 (lists_of ms os))) in
    e
    ∙ ap (λ (ps : List (ArrayVec ℕ)). ps ++ f (i, list_of (get_or ms i new_mode) (get_or os i []))) so_far
    ∙ append_assoc before done (f (i, list_of (get_or ms i new_mode) (get_or os i [])))
    ∙ ap (λ (l : DaqList). before ++ (done ++ f (i, l))) (sym (list_of_is ms os i same))
    ∙ ap (λ (ps : List (ArrayVec ℕ)). before ++ ps) (packets_more f (lists_of ms os) i (omega (arith, length-lists ms os same)))

-- what the first elements give is no more than what all give
fewer : {X : Type 0} (f : X → List (ArrayVec ℕ)) (k : ℕ) (xs : List X) → length (flat_map f (take k xs)) ≤ length (flat_map f xs)
fewer f k xs = omega (arith, ap (λ ys. length (flat_map f ys)) (take-append-drop k xs), ap length (flat_map-append f (take k xs) (drop k xs)), length-append (flat_map f (take k xs)) (flat_map f (drop k xs)))

-- the same of how many packets there are
pub count_more : (f : ℕ × DaqList → List (ArrayVec ℕ)) (ms : List Mode) (os : List Os) (i n here : ℕ) → length ms ≡ length os → i < length ms → n ≡ length (flat_map f (take i (enumerate_from 0 (lists_of ms os)))) → here ≡ length (f (i, list_of (get_or ms i new_mode) (get_or os i []))) → n + here ≡ length (flat_map f (take (i + 1) (enumerate_from 0 (lists_of ms os))))
count_more f ms os i n here same place so_far e =
    let out : List (ArrayVec ℕ) = flat_map f (take i (enumerate_from 0 (lists_of ms os))) in
    let next : List (ArrayVec ℕ) = f (i, list_of (get_or ms i new_mode) (get_or os i [])) in
    omega (arith, length-append out next, ap length (due_more f ms os i [] out (out ++ next) same place refl refl))

-- the packets of the first lists and of the next one are no more than those of all lists
pub count_most : (f : ℕ × DaqList → List (ArrayVec ℕ)) (ms : List Mode) (os : List Os) (i n here : ℕ) → length ms ≡ length os → i < length ms → n ≡ length (flat_map f (take i (enumerate_from 0 (lists_of ms os)))) → here ≡ length (f (i, list_of (get_or ms i new_mode) (get_or os i []))) → n + here ≤ length (flat_map f (enumerate_from 0 (lists_of ms os)))
count_most f ms os i n here same place so_far e = omega (arith, count_more f ms os i n here same place so_far e, fewer f (i + 1) (enumerate_from 0 (lists_of ms os)))
