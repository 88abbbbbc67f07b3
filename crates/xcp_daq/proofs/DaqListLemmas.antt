-- The lists that modes and ODTs are, one by one.
use Rattle.std.proofs.Common.{◌≡◌, ℕ, zero, suc, ◌+◌, ◌<◌, Bool, true, false, List, [], ◌∷◌, ◌++◌, length, map, take, get_or, slice_set, Option, ap, sym, ◌∙◌, refl, arith, ◌||◌}
use Rattle.std.specs.Prelude.{replicate}
use Rattle.std.proofs.lemmas.List.{get_or_default}
use Rattle.std.specs.List.{list_any}
use Rattle.xcp_packet.specs.declared.Stamp.TheVariants.{Without}
use Rattle.xcp_memory.specs.declared.Class.{Class}
use Rattle.xcp_daq.specs.declared.element.Element.{Element}
use Rattle.xcp_daq.specs.declared.mode.Mode.{Mode}
use Rattle.xcp_daq.specs.declared.pointer.Pointer.{Pointer}
use Rattle.xcp_daq.specs.declared.allocation.Allocation.{Allocation}
use Rattle.xcp_daq.specs.DaqLists.{DaqValue, DaqList, no_list, list_at, all_odts, first_pid}
use Rattle.xcp_daq.specs.Pools.{joined, list_of, lists_of, daq_of}
use Rattle.xcp_daq.specs.private.SplicedPools.{spliced, synchronised_mode, counted_mode}
use Rattle.std.specs.Prelude.{if◌then◌else◌, not, ◌&&◌, ◌==◌, ◌%◌}
use Rattle.xcp_daq.specs.Starting.{stopped, started, synchronised}
use Rattle.xcp_daq.specs.Sample.{counted}
use Rattle.xcp_daq.proofs.PoolPartLemmas.{spliced-end}

-- the ODTs of a list
abbrev Os : Type 0
Os = List (List (Option Element))

-- the mode of a new list
abbrev pub new_mode : Mode
new_mode = record { event = 0; prescaler = 1; priority = 0; running = false; selected = false; since = 0; stamp = Without }

-- modes and the ODTs of as many lists make as many lists
pub length-lists : (ms : List Mode) (os : List Os) → length ms ≡ length os → length (lists_of ms os) ≡ length ms
length-lists [] os h = refl
length-lists (m ∷ ms) [] h = absurd (omega arith)
length-lists (m ∷ ms) (o ∷ os) h = ap suc (length-lists ms os (omega arith))

-- list i is made of mode i and the ODTs at i, and is as a new list where there is none
pub list_of_is : (ms : List Mode) (os : List Os) (i : ℕ) → length ms ≡ length os → get_or (lists_of ms os) i no_list ≡ list_of (get_or ms i new_mode) (get_or os i [])
list_of_is [] [] i h = refl
list_of_is [] (o ∷ os) i h = absurd (omega arith)
list_of_is (m ∷ ms) [] i h = absurd (omega arith)
list_of_is (m ∷ ms) (o ∷ os) zero h = refl
list_of_is (m ∷ ms) (o ∷ os) (suc i) h = list_of_is ms os i (omega arith)

-- where mode i changes, list i gets it and keeps its ODTs, and no other list changes
pub lists-set_mode : (ms : List Mode) (os : List Os) (i : ℕ) (m : Mode) → length ms ≡ length os → i < length ms → lists_of (slice_set ms i m) os ≡ slice_set (lists_of ms os) i (list_of m (get_or os i []))
lists-set_mode [] os i m h k = absurd (omega arith)
lists-set_mode (n ∷ ms) [] i m h k = absurd (omega arith)
lists-set_mode (n ∷ ms) (p ∷ os) zero m h k = refl
lists-set_mode (n ∷ ms) (p ∷ os) (suc i) m h k = ap (λ ls. list_of n p ∷ ls) (lists-set_mode ms os i m (omega arith) (omega arith))

-- where the ODTs at i change, list i gets them and keeps its mode, and no other list changes
pub lists-set_odts : (ms : List Mode) (os : List Os) (i : ℕ) (o : Os) → length ms ≡ length os → i < length ms → lists_of ms (slice_set os i o) ≡ slice_set (lists_of ms os) i (list_of (get_or ms i new_mode) o)
lists-set_odts [] os i o h k = absurd (omega arith)
lists-set_odts (n ∷ ms) [] i o h k = absurd (omega arith)
lists-set_odts (n ∷ ms) (p ∷ os) zero o h k = refl
lists-set_odts (n ∷ ms) (p ∷ os) (suc i) o h k = ap (λ ls. list_of n p ∷ ls) (lists-set_odts ms os i o (omega arith) (omega arith))

-- modes and ODTs put behind others make lists behind the others' lists
pub lists-append : (ms ns : List Mode) (os ps : List Os) → length ms ≡ length os → lists_of (ms ++ ns) (os ++ ps) ≡ lists_of ms os ++ lists_of ns ps
lists-append [] ns [] ps h = refl
lists-append [] ns (o ∷ os) ps h = absurd (omega arith)
lists-append (m ∷ ms) ns [] ps h = absurd (omega arith)
lists-append (m ∷ ms) ns (o ∷ os) ps h = ap (λ ls. list_of m o ∷ ls) (lists-append ms ns os ps (omega arith))

-- n modes of a new list, each with no ODT, make n new lists
pub lists-new : (n : ℕ) → lists_of (replicate n new_mode) (replicate n []) ≡ replicate n no_list
lists-new zero = refl
lists-new (suc n) = ap (λ (ls : List DaqList). no_list ∷ ls) (lists-new n)

-- the first n lists are made of the first n modes and the first n lists' ODTs
pub lists-take : (n : ℕ) (ms : List Mode) (os : List Os) → take n (lists_of ms os) ≡ lists_of (take n ms) (take n os)
lists-take zero ms os = refl
lists-take (suc n) [] os = refl
lists-take (suc n) (m ∷ ms) [] = refl
lists-take (suc n) (m ∷ ms) (o ∷ os) = ap (λ ls. list_of m o ∷ ls) (lists-take n ms os)

-- the modes change one by one
pub lists-map : (f : Mode → Mode) (g : DaqList → DaqList) → ((m : Mode) (o : Os) → list_of (f m) o ≡ g (list_of m o)) → (ms : List Mode) (os : List Os) → lists_of (map f ms) os ≡ map g (lists_of ms os)
lists-map f g h [] os = refl
lists-map f g h (m ∷ ms) [] = refl
lists-map f g h (m ∷ ms) (o ∷ os) = ap (λ ls. list_of (f m) o ∷ ls) (lists-map f g h ms os) ∙ ap (λ l. l ∷ map g (lists_of ms os)) (h m o)

-- all ODTs of lists made of modes and ODTs are these ODTs, one list's behind another's
pub odts-of : (ms : List Mode) (os : List Os) → length ms ≡ length os → all_odts (lists_of ms os) ≡ joined os
odts-of [] [] h = refl
odts-of [] (o ∷ os) h = absurd (omega arith)
odts-of (m ∷ ms) [] h = absurd (omega arith)
odts-of (m ∷ ms) (o ∷ os) h = ap (λ xs. o ++ xs) (odts-of ms os (omega arith))

-- some mode runs exactly where some list made of the modes does
pub running-of : (ms : List Mode) (os : List Os) → length ms ≡ length os → list_any (λ (m : Mode). m.running) ms ≡ list_any (λ (l : DaqList). l.running) (lists_of ms os)
running-of [] os h = refl
running-of (m ∷ ms) [] h = absurd (omega arith)
running-of (m ∷ ms) (o ∷ os) h = ap (λ b. m.running || b) (running-of ms os (omega arith))

-- what the numbers of the value are in its parts
pub count_of : (d : DaqValue) (class : Class) (ms : List Mode) (os : List Os) (p : Option Pointer) (l : Option Allocation) → daq_of class ms os p l ≡ d → length ms ≡ length os → length d.lists ≡ length ms
count_of d class ms os p l is h = sym (ap (λ (v : DaqValue). length v.lists) is) ∙ length-lists ms os h

-- list i of the value is made of the mode and the ODTs at i of its parts
pub list_at_is : (d : DaqValue) (class : Class) (ms : List Mode) (os : List Os) (p : Option Pointer) (l : Option Allocation) (i : ℕ) → daq_of class ms os p l ≡ d → length ms ≡ length os → list_at d i ≡ list_of (get_or ms i new_mode) (get_or os i [])
list_at_is d class ms os p l i is h = sym (ap (λ (v : DaqValue). list_at v i) is) ∙ list_of_is ms os i h

-- the ODTs of list i of the value are those at i of its parts
pub odts_at_is : (d : DaqValue) (class : Class) (ms : List Mode) (os : List Os) (p : Option Pointer) (l : Option Allocation) (i : ℕ) → daq_of class ms os p l ≡ d → length ms ≡ length os → (list_at d i).odts ≡ get_or os i []
odts_at_is d class ms os p l i is h = ap (λ (x : DaqList). x.odts) (list_at_is d class ms os p l i is h)

-- the first n of two lists of one length are as many
pub length-takes : {A B : Type 0} (n : ℕ) (xs : List A) (ys : List B) → length xs ≡ length ys → length (take n xs) ≡ length (take n ys)
length-takes zero xs ys h = refl
length-takes (suc n) [] [] h = refl
length-takes (suc n) [] (y ∷ ys) h = absurd (omega arith)
length-takes (suc n) (x ∷ xs) [] h = absurd (omega arith)
length-takes (suc n) (x ∷ xs) (y ∷ ys) h = ap suc (length-takes n xs ys (omega arith))

-- the first PID of list i is the number of ODTs that the parts have before it
pub first_pid_is : (d : DaqValue) (class : Class) (ms : List Mode) (os : List Os) (p : Option Pointer) (l : Option Allocation) (i : ℕ) → daq_of class ms os p l ≡ d → length ms ≡ length os → first_pid i d ≡ length (joined (take i os))
first_pid_is d class ms os p l i is h =
    sym (ap (λ (v : DaqValue). length (all_odts (take i v.lists))) is)
    ∙ ap (λ ls. length (all_odts ls)) (lists-take i ms os)
    ∙ ap length (odts-of (take i ms) (take i os) (length-takes i ms os h))

-- an element that is there is read the same by any default
pub default_free : {A : Type 0} (xs : List A) (i : ℕ) (d e : A) → i < length xs → get_or xs i d ≡ get_or xs i e
default_free [] i d e h = absurd (omega arith)
default_free (x ∷ xs) zero d e h = refl
default_free (x ∷ xs) (suc i) d e h = default_free xs i d e (omega arith)

-- list i has another mode
pub modes_set : (ms ns : List Mode) (os : List Os) (i : ℕ) (m : Mode) → length ms ≡ length os → i < length ms → ns ≡ slice_set ms i m → lists_of ns os ≡ slice_set (lists_of ms os) i (list_of m (get_or (lists_of ms os) i no_list).odts)
modes_set ms ns os i m h below e =
    ap (λ (xs : List Mode). lists_of xs os) e
    ∙ lists-set_mode ms os i m h below
    ∙ ap (λ (o : Os). slice_set (lists_of ms os) i (list_of m o)) (sym (ap (λ (x : DaqList). x.odts) (list_of_is ms os i h)))

-- list i has other ODTs
pub odts_set : (g : Os → Os) (ms : List Mode) (os ps : List Os) (i : ℕ) → length ms ≡ length os → i < length ms → ps ≡ slice_set os i (g (get_or os i [])) → lists_of ms ps ≡ slice_set (lists_of ms os) i (record (get_or (lists_of ms os) i no_list) { odts = g (get_or (lists_of ms os) i no_list).odts })
odts_set g ms os ps i h below e =
    ap (λ (xs : List Os). lists_of ms xs) e
    ∙ lists-set_odts ms os i (g (get_or os i [])) h below
    ∙ ap (λ (x : DaqList). slice_set (lists_of ms os) i (record x { odts = g x.odts })) (sym (list_of_is ms os i h))

-- new lists behind the others
pub lists_added : (ms ns : List Mode) (os ps : List Os) (k n : ℕ) → length ms ≡ length os → k ≡ length ms → ns ≡ spliced ms k (replicate n new_mode) → ps ≡ os ++ replicate n [] → lists_of ns ps ≡ lists_of ms os ++ replicate n no_list
lists_added ms ns os ps k n h f a b =
    ap (λ (xs : List Mode). lists_of xs ps) (a ∙ spliced-end ms (replicate n new_mode) k f)
    ∙ ap (λ (xs : List Os). lists_of (ms ++ replicate n new_mode) xs) b
    ∙ lists-append ms (replicate n new_mode) os (replicate n []) h
    ∙ ap (λ (ls : List DaqList). lists_of ms os ++ ls) (lists-new n)

synchronised_by : (m : Mode) (o : Os) (stop chosen start : Bool) → list_of (record (if stop then record m { running = false; since = 0 } else (if not chosen then m else (if start then record m { running = true; since = 0 } else record m { running = false; since = 0 }))) { selected = false }) o ≡ record (if stop then stopped (list_of m o) else (if not chosen then list_of m o else (if start then started (list_of m o) else stopped (list_of m o)))) { selected = false }
synchronised_by m o true chosen start = refl
synchronised_by m o false false start = refl
synchronised_by m o false true true = refl
synchronised_by m o false true false = refl

counted_by : (m : Mode) (o : Os) (counts : Bool) → list_of (if counts then record m { since = (m.since + 1) % m.prescaler } else m) o ≡ (if counts then record (list_of m o) { since = (m.since + 1) % m.prescaler } else list_of m o)
counted_by m o true = refl
counted_by m o false = refl

-- how START_STOP_SYNCH and an event change a list
pub synchronised_of : (mode : ℕ) (m : Mode) (o : Os) → list_of (synchronised_mode mode m) o ≡ record (synchronised mode (list_of m o)) { selected = false }
synchronised_of mode m o = synchronised_by m o (mode == 0) m.selected (mode == 1)

-- an event changes a list as it changes the list's mode
pub counted_of : (channel : ℕ) (m : Mode) (o : Os) → list_of (counted_mode channel m) o ≡ counted channel (list_of m o)
counted_of channel m o = counted_by m o (m.running && (m.event == channel))

-- what is read of modes and ODTs, of the lists that they are
pub ruleset reads = (length-lists, list_of_is, odts-of, lists-take, length-takes, running-of, get_or_default)
