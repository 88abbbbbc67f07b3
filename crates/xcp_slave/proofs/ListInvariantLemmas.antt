-- The lists after each command of data acquisition.
use Rattle.std.proofs.Common.{◌≡◌, ◌≢◌, ℕ, zero, suc, ◌+◌, ◌<◌, ◌≤◌, Bool, true, false, List, [], ◌∷◌, ◌++◌, length, map, get_or, slice_set, Option, Some, None, Result, Ok, Err, inl, inr, ap, sym, ◌∙◌, refl, subst, arith, All, nat_le, nat_lt}
use Rattle.std.specs.Prelude.{replicate, ◌==◌, not, ◌&&◌, ◌||◌, if◌then◌else◌}
use Rattle.std.specs.List.{list_any}
use Rattle.std.proofs.lemmas.Grind.{flat_map-append}
use Rattle.std.proofs.lemmas.Bool.Decides.{nat_tests}
use Rattle.std.proofs.lemmas.List.{append-nil, length-set, get_or-map, get_or-set_same, length-map}
use Rattle.std.proofs.lemmas.List.Folds.{list_any_at}
use Rattle.std.proofs.lemmas.List.Elements.{All-set, All-append, All-replicate, All-map}
use Rattle.xcp_packet.specs.declared.Code.{Code}
use Rattle.xcp_packet.specs.declared.Code.TheVariants.{Sequence, OutOfRange, DaqActive, MemoryOverflow, DaqConfig, ModeNotValid}
use Rattle.xcp_packet.specs.declared.Stamp.TheVariants.{Without}
use Rattle.xcp_packet.specs.TimeStamps.{stamp_size}
use Rattle.xcp_memory.specs.declared.Class.{Class}
use Rattle.xcp_memory.specs.ClassLimits.{limits_of}
use Rattle.xcp_memory.specs.Layout.{LayoutValue, IsLayout}
use Rattle.xcp_memory.specs.ComputedAccess.{lies_inside}
use Rattle.xcp_memory.proofs.AreaLaws.{inside_lies}
use Rattle.xcp_packet.specs.Rows.{first_holding}
use Rattle.xcp_transfer.proofs.AreaEndLemmas.{inside_last}
use Rattle.xcp_daq.specs.declared.daq_element.DaqElement.{DaqElement}
use Rattle.xcp_daq.specs.declared.element.Element.{Element}
use Rattle.xcp_daq.specs.declared.pointer.Pointer.{Pointer}
use Rattle.xcp_daq.specs.declared.mode.Mode.{Mode}
use Rattle.xcp_daq.specs.declared.allocation.Allocation.{Allocation}
use Rattle.xcp_daq.specs.declared.allocation.Allocation.TheVariants.{AllocDaq, AllocOdt, AllocOdtEntry}
use Rattle.xcp_daq.specs.DaqLists.{DaqValue, DaqList, no_list, list_at, odt_at, all_odts, all_entries, any_running, lacks_list, lacks_odt, lacks_entry, with_list, odt_size, first_size, any_large, is_large, has_large_odt, greatest_size}
use Rattle.xcp_daq.specs.DaqInvariant.{FitsPackets, IsList, IsPointer, IsPointerOf, IsDaq}
use Rattle.xcp_daq.specs.Pools.{joined, list_of}
use Rattle.xcp_daq.specs.AllocationSequence.{may_follow}
use Rattle.xcp_daq.specs.Allocating.{alloc_daq_refusal, alloc_daq_after, alloc_odt_refusal, alloc_odt_after, alloc_odt_entry_refusal, alloc_odt_entry_after}
use Rattle.xcp_daq.specs.Configuring.{clear_daq_list_refusal, clear_daq_list_after, cleared, set_daq_ptr_refusal, set_daq_ptr_after, write_daq_refusal, write_daq_after, entry_written, moved_on, moved_by, has_no_pointer, pointed_list_runs, element_rows, unless, write_daqs, multiple, all_or_none, write_daq_multiple_after, is_mode, stamp_asked, read_daq_after, set_daq_list_mode_refusal, set_daq_list_mode_after}
use Rattle.xcp_daq.specs.Starting.{stopped, started, selected, switched, synchronised, start_stop_daq_list_refusal, start_stop_daq_list_after, start_stop_synch_refusal, start_stop_synch_after}
use Rattle.xcp_daq.specs.Sample.{counts, counted, after_event}
use Rattle.xcp_daq.proofs.DaqInvariantLemmas.{all_set, all_part, entries_by_list, lawful_last, lawful_pointer, lawful_added, lawful_map, lawful_more_odts, lawful_more_entries, lawful_entry, lawful_mode, lawful_bare, lawful_bound, lawful_stopped, lawful_started, lawful_selected, cleared_twice, stands_still, moved_in, grows_entry, lawful_synchronised, synchronised_odts, lawful_counted, counted_odts}
use Rattle.xcp_slave.specs.SlaveInvariant.{LiesWritten, FitsMaxDto, IsLists, IsStampOf}
use Rattle.xcp_slave.proofs.ClassLimitLemmas.{few-events}

-- none of the tests holds
abbrev pub NoneHolds : {A : Type 0} → List (Bool × A) → Type 0
NoneHolds [] = Unit {0}
NoneHolds (row ∷ rows) = (row.0 ≡ false) × NoneHolds rows

one-more : {A : Type 0} (t : Bool) (x : A) (rows : List (Bool × A)) → (first_holding rows ≡ None → NoneHolds rows) → first_holding ((t, x) ∷ rows) ≡ None → NoneHolds ((t, x) ∷ rows)
one-more true x rows f h = cc
one-more false x rows f h = (refl, f h)

-- where there is no first test that holds, none of the tests holds
pub none-holds : {A : Type 0} (rows : List (Bool × A)) → first_holding rows ≡ None → NoneHolds rows
none-holds [] h = tt
none-holds (row ∷ rows) h = one-more row.0 row.1 rows (none-holds rows) h

-- a test that is found false
pub is_below : (n m : ℕ) → nat_le m n ≡ false → n < m
is_below n m h = grind (arith, nat_tests, h)

-- n is at most m where the test that m is less than n is false
pub at_most : (n m : ℕ) → nat_lt m n ≡ false → n ≤ m
at_most n m h = grind (arith, nat_tests, h)

-- the test for equality holds of equal numbers
pub equal : (n m : ℕ) → n ≡ m → (n == m) ≡ true
equal n m h = grind (arith, nat_tests, h)

-- numbers of which the test for equality is false differ
pub differs : (n m : ℕ) → (n == m) ≡ false → n ≢ m
differs n m h = λ e. (let t = equal n m e in cc)

-- a test whose negation is false holds
pub is_true : (b : Bool) → not b ≡ false → b ≡ true
is_true true h = refl
is_true false h = cc

-- list i gives way to another
with-list : (l : LayoutValue) (v : DaqValue) (i : ℕ) (x : DaqList) → IsLists l v → IsDaq (with_list v i x) → All (LiesWritten l) (joined x.odts) → FitsMaxDto l x → IsLists l (with_list v i x)
with-list l v i x h d written room = record {
  class = h.class;
  daq = d;
  inside = subst (All (LiesWritten l)) (sym (entries_by_list (slice_set v.lists i x))) (all_set (LiesWritten l) (λ (y : DaqList). joined y.odts) v.lists i x (subst (All (LiesWritten l)) (entries_by_list v.lists) h.inside) written);
  room = All-set (FitsMaxDto l) v.lists i x room h.room;
}

-- the written entries of list i, and of its ODT j
entries-at : (l : LayoutValue) (v : DaqValue) (i : ℕ) → IsLists l v → i < length v.lists → All (LiesWritten l) (joined (list_at v i).odts)
entries-at l v i h below = all_part (LiesWritten l) (λ (y : DaqList). joined y.odts) v.lists i no_list below (subst (All (LiesWritten l)) (entries_by_list v.lists) h.inside)

odt-entries : (l : LayoutValue) (v : DaqValue) (i j : ℕ) → IsLists l v → i < length v.lists → j < length (list_at v i).odts → All (LiesWritten l) (odt_at v i j)
odt-entries l v i j h below place = all_part (LiesWritten l) (λ (x : List (Option Element)). x) (list_at v i).odts j [] place (entries-at l v i h below)

room-at : (l : LayoutValue) (v : DaqValue) (i : ℕ) → IsLists l v → i < length v.lists → FitsMaxDto l (list_at v i)
room-at l v i h below = h.room i no_list below

with-last : (l : LayoutValue) (v : DaqValue) (a : Option Allocation) → IsLists l v → IsLists l (record v { last = a })
with-last l v a h = record { class = h.class; daq = lawful_last v a h.daq; inside = h.inside; room = h.room }

with-pointer : (l : LayoutValue) (v : DaqValue) (p : Option Pointer) → IsLists l v → IsPointerOf v p → IsLists l (record v { pointer = p })
with-pointer l v p h k = record { class = h.class; daq = lawful_pointer v p h.daq k; inside = h.inside; room = h.room }

-- a list that is stopped has room
idle-room : (l : LayoutValue) (x : DaqList) → IsStampOf l x.stamp → x.running ≡ false → FitsMaxDto l x
idle-room l x s e = record { stamp = s; fits = λ k. cc; first = λ k. cc }

-- no lists
pub no-lists : (l : LayoutValue) (class : Class) (a : Option Allocation) → class ≡ l.class → IsLists l (record { class = class; lists = []; pointer = None; last = a })
no-lists l class a h = record {
  class = h;
  daq = record { lists = omega arith; odts = omega arith; entries = omega arith; each = λ k d below. absurd (omega arith); written = λ k d below. absurd (omega arith); pointer = tt };
  inside = λ k d below. absurd (omega arith);
  room = λ k d below. absurd (omega arith);
}

no_odts : (n : ℕ) → all_odts (replicate n no_list) ≡ []
no_odts zero = refl
no_odts (suc n) = no_odts n

-- an ALLOC_DAQ that isn't refused keeps the DAQ lists lawful
pub alloc-daq : (l : LayoutValue) (count : ℕ) (v : DaqValue) → IsLists l v → alloc_daq_refusal count v ≡ None → IsLists l (alloc_daq_after count v)
alloc-daq l count v h r =
    let a = none-holds ((not (may_follow v.last AllocDaq), Sequence) ∷ (any_running v, DaqActive) ∷ (count == 0, OutOfRange) ∷ (nat_lt (limits_of v.class).lists (length v.lists + count), MemoryOverflow) ∷ []) r in
    let b = a.1 in
    let c = b.1 in
    let d = c.1 in
    let w : DaqValue = record v { lists = v.lists ++ replicate count no_list } in
    let odts : all_odts w.lists ≡ all_odts v.lists = flat_map-append (λ (x : DaqList). x.odts) v.lists (replicate count no_list) ∙ ap (λ xs. all_odts v.lists ++ xs) (no_odts count) ∙ append-nil (all_odts v.lists) in
    let lists : IsLists l w = record {
      class = h.class;
      daq = lawful_added v count h.daq (at_most _ _ d.0);
      inside = subst (λ (xs : List (List (Option Element))). All (LiesWritten l) (joined xs)) (sym odts) h.inside;
      room = All-append (FitsMaxDto l) v.lists (replicate count no_list) h.room (All-replicate (FitsMaxDto l) count no_list (idle-room l no_list (inl refl) refl));
    } in
    with-last l w (Some AllocDaq) lists

empty_odts : (n : ℕ) → joined (replicate {A = List (Option Element)} n []) ≡ []
empty_odts zero = refl
empty_odts (suc n) = empty_odts n

-- the same for ALLOC_ODT
pub alloc-odt : (l : LayoutValue) (list count : ℕ) (v : DaqValue) → IsLists l v → alloc_odt_refusal list count v ≡ None → IsLists l (alloc_odt_after list count v)
alloc-odt l list count v h r =
    let a = none-holds ((not (may_follow v.last AllocOdt), Sequence) ∷ (lacks_list v list, OutOfRange) ∷ (any_running v, DaqActive) ∷ (count == 0, OutOfRange) ∷ (nat_lt (limits_of v.class).odts (length (all_odts v.lists) + count), MemoryOverflow) ∷ []) r in
    let b = a.1 in
    let c = b.1 in
    let d = c.1 in
    let e = d.1 in
    let below : list < length v.lists = is_below _ _ b.0 in
    let still = stands_still v.lists list below c.0 in
    let os : List (List (Option Element)) = (list_at v list).odts in
    let new : List (List (Option Element)) = os ++ replicate count [] in
    let entries : joined new ≡ joined os = flat_map-append (λ odt. odt) os (replicate count []) ∙ ap (λ xs. joined os ++ xs) (empty_odts count) ∙ append-nil (joined os) in
    let x : DaqList = record (list_at v list) { odts = new } in
    with-last l (with_list v list x) (Some AllocOdt)
    (with-list l v list x h (lawful_more_odts v list count h.daq below still (at_most _ _ e.0)) (subst (All (LiesWritten l)) (sym entries) (entries-at l v list h below)) (idle-room l x (room-at l v list h below).stamp still))

-- the same for ALLOC_ODT_ENTRY
pub alloc-entry : (l : LayoutValue) (list odt count : ℕ) (v : DaqValue) → IsLists l v → alloc_odt_entry_refusal list odt count v ≡ None → IsLists l (alloc_odt_entry_after list odt count v)
alloc-entry l list odt count v h r =
    let a = none-holds ((not (may_follow v.last AllocOdtEntry), Sequence) ∷ (lacks_list v list, OutOfRange) ∷ (lacks_odt v list odt, OutOfRange) ∷ ((list_at v list).running, DaqActive) ∷ (count == 0, OutOfRange) ∷ (nat_lt (limits_of v.class).entries (length (all_entries v.lists) + count), MemoryOverflow) ∷ []) r in
    let b = a.1 in
    let c = b.1 in
    let d = c.1 in
    let e = d.1 in
    let f = e.1 in
    let below : list < length v.lists = is_below _ _ b.0 in
    let place : odt < length (list_at v list).odts = is_below _ _ c.0 in
    let os : List (List (Option Element)) = (list_at v list).odts in
    let new : List (Option Element) = odt_at v list odt ++ replicate count None in
    let x : DaqList = record (list_at v list) { odts = slice_set os odt new } in
    let all : All (LiesWritten l) new = All-append (LiesWritten l) (odt_at v list odt) (replicate count None) (odt-entries l v list odt h below place) (All-replicate (LiesWritten l) count None tt) in
    with-last l (with_list v list x) (Some AllocOdtEntry)
    (with-list l v list x h (lawful_more_entries v list odt count h.daq below place d.0 (at_most _ _ f.0)) (all_set (LiesWritten l) (λ (y : List (Option Element)). y) os odt new (entries-at l v list h below) all) (idle-room l x (room-at l v list h below).stamp d.0))

-- the mode of a list
abbrev mode_of : DaqList → Mode
mode_of x = record { event = x.event; prescaler = x.prescaler; priority = x.priority; running = x.running; selected = x.selected; since = x.since; stamp = x.stamp }

bare : Option Element → Option Element
bare entry = None

all_bare : (l : LayoutValue) (os : List (List (Option Element))) → All (LiesWritten l) (joined (map (map (λ entry. None)) os))
all_bare l [] = λ k d below. absurd (omega arith)
all_bare l (o ∷ os) = All-append (LiesWritten l) (map (λ entry. None) o) (joined (map (map (λ entry. None)) os)) (All-map (LiesWritten l) (λ entry. None) o (λ k d b. tt)) (all_bare l os)

-- the same for CLEAR_DAQ_LIST
pub clear-list : (l : LayoutValue) (list : ℕ) (v : DaqValue) → IsLists l v → clear_daq_list_refusal list v ≡ None → IsLists l (clear_daq_list_after list v)
clear-list l list v h r =
    let a = none-holds ((lacks_list v list, OutOfRange) ∷ []) r in
    let below : list < length v.lists = is_below _ _ a.0 in
    let x : DaqList = list_at v list in
    let m : Mode = mode_of x in
    let y : DaqList = list_of (record m { running = false; selected = false; since = 0 }) x.odts in
    let u : DaqValue = with_list v list y in
    let first : IsDaq u = lawful_mode v list y h.daq below (lawful_stopped x m false refl (h.daq.each list no_list below)) refl in
    let at : list_at u list ≡ y = get_or-set_same v.lists list y no_list below in
    let still : (list_at u list).running ≡ false = ap (λ (z : DaqList). z.running) at in
    let there : list < length u.lists = omega (arith, length-set v.lists list y) in
    let w : DaqValue = with_list u list (record (list_at u list) { odts = map (map (λ entry. None)) (list_at u list).odts }) in
    let second : IsDaq w = lawful_bare u list first there still in
    with-list l v list (cleared x) h (subst IsDaq (cleared_twice v u w list m below refl refl refl) second) (all_bare l x.odts) (idle-room l (cleared x) (room-at l v list h below).stamp refl)

-- the same for SET_DAQ_PTR
pub set-pointer : (l : LayoutValue) (list odt entry : ℕ) (v : DaqValue) → IsLists l v → set_daq_ptr_refusal list odt entry v ≡ None → IsLists l (set_daq_ptr_after list odt entry v)
set-pointer l list odt entry v h r =
    let a = none-holds ((lacks_list v list, OutOfRange) ∷ (lacks_odt v list odt, OutOfRange) ∷ (lacks_entry v list odt entry, OutOfRange) ∷ []) r in
    let b = a.1 in
    let c = b.1 in
    with-pointer l v (Some (record { list = list; odt = odt; entry = entry })) h (record { list = is_below _ _ a.0; odt = is_below _ _ b.0; entry = is_below _ _ c.0 })

entry-written : (l : LayoutValue) (size address : ℕ) (v : DaqValue) (p : Pointer) → IsLayout l → IsLists l v → IsPointer v p → (list_at v p.list).running ≡ false → 1 ≤ size → size ≤ greatest_size l → lies_inside l address size ≡ true → IsLists l (entry_written (Some p) (record { size = size; address = address }) v)
entry-written l size address v p layout h at still some small inside =
    let e : Element = record { size = size; address = address } in
    let os : List (List (Option Element)) = (list_at v p.list).odts in
    let new : List (Option Element) = slice_set (odt_at v p.list p.odt) p.entry (Some e) in
    let x : DaqList = record (list_at v p.list) { odts = slice_set os p.odt new } in
    let last = inside_last l address size layout inside in
    let lawful : IsDaq (with_list v p.list x) = lawful_entry v p.list p.odt p.entry e h.daq at.list at.odt still (some, omega (arith, layout.dto_most), omega arith) in
    let all : All (LiesWritten l) new = All-set (LiesWritten l) (odt_at v p.list p.odt) p.entry (Some e) (inside_lies l address size inside) (odt-entries l v p.list p.odt h at.list at.odt) in
    let lists = with-list l v p.list x h lawful (all_set (LiesWritten l) (λ (y : List (Option Element)). y) os p.odt new (entries-at l v p.list h at.list) all) (idle-room l x (room-at l v p.list h at.list).stamp still) in
    with-pointer l (with_list v p.list x) (moved_on v p) lists (grows_entry v p e at)

both_true : (a b : Bool) → not (a && b) ≡ false → (a ≡ true) × (b ≡ true)
both_true true true h = (refl, refl)
both_true true false h = cc
both_true false b h = cc

is_least : (n m : ℕ) → nat_le n m ≡ true → n ≤ m
is_least n m h = grind (arith, nat_tests, h)

write-by : (l : LayoutValue) (offset size extension address : ℕ) (v : DaqValue) (o : Option Pointer) → IsLayout l → IsLists l v → IsPointerOf v o → (has_no_pointer o ≡ false) → (pointed_list_runs o v ≡ false) → 1 ≤ size → size ≤ greatest_size l → lies_inside l address size ≡ true → IsLists l (entry_written o (record { size = size; address = address }) v)
write-by l offset size extension address v None layout h at some still a b c = h
write-by l offset size extension address v (Some p) layout h at some still a b c = entry-written l size address v p layout h at still a b c

-- a WRITE_DAQ that isn't refused keeps the DAQ lists lawful, where the layout is within its limits
pub write-daq : (l : LayoutValue) (offset size extension address : ℕ) (v : DaqValue) → IsLayout l → IsLists l v → write_daq_refusal l offset size extension address v ≡ None → IsLists l (write_daq_after size address v)
write-daq l offset size extension address v layout h r =
    let a = none-holds ((has_no_pointer v.pointer, DaqConfig) ∷ (pointed_list_runs v.pointer v, DaqActive) ∷ element_rows l offset size extension address) r in
    let b = a.1 in
    let c = b.1 in
    let d = c.1 in
    let e = d.1 in
    let f = e.1 in
    let sizes = both_true _ _ d.0 in
    write-by l offset size extension address v v.pointer layout h h.daq.pointer a.0 b.0 (is_least _ _ sizes.0) (is_least _ _ sizes.1) (is_true _ f.0)

read-by : (l : LayoutValue) (v : DaqValue) (o : Option Pointer) → IsLists l v → IsPointerOf v o → IsLists l (moved_by o v)
read-by l v None h k = h
read-by l v (Some p) h k = with-pointer l v (moved_on v p) h (moved_in v p k)

unless-ok : (o : Option Code) (r : Result DaqValue Code) (w : DaqValue) → unless o r ≡ Ok w → (o ≡ None) × (r ≡ Ok w)
unless-ok None r w h = (refl, h)
unless-ok (Some code) r w h = cc

-- WRITE_DAQs in turn of which none is refused keep the DAQ lists lawful
write-turns : (l : LayoutValue) (es : List DaqElement) (v w : DaqValue) → IsLayout l → IsLists l v → write_daqs l es v ≡ Ok w → IsLists l w
write-turns l [] v w layout h r = let same : v ≡ w = cc in subst (IsLists l) same h
write-turns l (e ∷ es) v w layout h r =
    let k = unless-ok _ _ w r in
    write-turns l es (write_daq_after e.size e.address v) w layout (write-daq l e.offset e.size e.extension e.address v layout h k.0) k.1

all-or-none : (l : LayoutValue) (v : DaqValue) (r : Result DaqValue Code) → IsLists l v → ((w : DaqValue) → r ≡ Ok w → IsLists l w) → IsLists l (all_or_none v r)
all-or-none l v (Ok w) h k = k w refl
all-or-none l v (Err code) h k = h

-- WRITE_DAQ_MULTIPLE keeps the DAQ lists lawful
pub write-multiple : (l : LayoutValue) (bytes : List ℕ) (v : DaqValue) → IsLayout l → IsLists l v → IsLists l (write_daq_multiple_after l bytes v)
write-multiple l bytes v layout h = all-or-none l v (multiple l bytes v) h (λ w r. write-turns l _ v w layout h r)

-- what READ_DAQ does keeps the DAQ lists lawful
pub read-daq : (l : LayoutValue) (v : DaqValue) → IsLists l v → IsLists l (read_daq_after v)
read-daq l v h = read-by l v v.pointer h h.daq.pointer

is_some : (n : ℕ) → (n == 0) ≡ false → 1 ≤ n
is_some n h = grind (arith, nat_tests, h)

asked-by : (l : LayoutValue) (none : Bool) → IsStampOf l (if none then Without else l.clock.stamp)
asked-by l true = inl refl
asked-by l false = inr refl

-- the same for SET_DAQ_LIST_MODE as for WRITE_DAQ, where its prescaler and priority are at most 255
pub set-mode : (l : LayoutValue) (mode list event prescaler priority : ℕ) (v : DaqValue) → IsLayout l → IsLists l v → prescaler ≤ 255 → priority ≤ 255 → set_daq_list_mode_refusal l mode list event prescaler v ≡ None → IsLists l (set_daq_list_mode_after l mode list event prescaler priority v)
set-mode l mode list event prescaler priority v layout h p q r =
    let a = none-holds ((not (is_mode l mode), ModeNotValid) ∷ (lacks_list v list, OutOfRange) ∷ ((list_at v list).running, DaqActive) ∷ (nat_le (length l.events) event, OutOfRange) ∷ (prescaler == 0, OutOfRange) ∷ []) r in
    let b = a.1 in
    let c = b.1 in
    let d = c.1 in
    let e = d.1 in
    let below : list < length v.lists = is_below _ _ b.0 in
    let few : event < length l.events = is_below _ _ d.0 in
    let x : DaqList = list_at v list in
    let y : DaqList = record x { event = event; prescaler = prescaler; priority = priority; stamp = stamp_asked l mode } in
    let lawful : IsList y = lawful_bound x (mode_of x) event prescaler priority (stamp_asked l mode) refl (h.daq.each list no_list below) c.0 (omega (arith, layout.events_most, few-events l.class)) (is_some prescaler e.0) p q in
    with-list l v list y h (lawful_mode v list y h.daq below lawful refl) (entries-at l v list h below) (idle-room l y (asked-by l (mode == 0)) c.0)

none-at : {A : Type 0} (p : A → Bool) (xs : List A) (i : ℕ) (x : A) → list_any p xs ≡ false → i < length xs → (b : Bool) → p (get_or xs i x) ≡ b → b ≡ false
none-at p xs i x h k true e = let some = list_any_at p xs i x k e in cc
none-at p xs i x h k false e = refl

-- no ODT is large
room-of : (l : LayoutValue) (odts : List (List (Option Element))) → IsLayout l → any_large (greatest_size l) odts ≡ false → All (λ odt. odt_size odt < l.max_dto) odts
room-of l odts layout none = λ k d below.
    (let small = at_most (odt_size (get_or odts k d)) (greatest_size l) (none-at (λ (odt : List (Option Element)). nat_lt (greatest_size l) (odt_size odt)) odts k d none below _ refl) in
    omega (arith, layout.dto_least))

neither-of : (a b : Bool) → (a || b) ≡ false → (a ≡ false) × (b ≡ false)
neither-of true b h = cc
neither-of false b h = (refl, h)

-- nor is the first one with the time stamp
first-of : (l : LayoutValue) (x : DaqList) → IsLayout l → is_large (greatest_size l) x ≡ false → stamp_size x.stamp + first_size x.odts < l.max_dto
first-of l x layout none =
    let both = neither-of (any_large (greatest_size l) x.odts) (nat_lt (greatest_size l) (stamp_size x.stamp + first_size x.odts)) none in
    let small = at_most (stamp_size x.stamp + first_size x.odts) (greatest_size l) both.1 in
    omega (arith, layout.dto_least)

-- the data packets of a list that isn't large have room for its ODTs
fits-of : (l : LayoutValue) (x : DaqList) → IsLayout l → is_large (greatest_size l) x ≡ false → FitsPackets x.stamp x.odts
fits-of l x layout none =
    let small = room-of l x.odts layout (neither-of (any_large (greatest_size l) x.odts) (nat_lt (greatest_size l) (stamp_size x.stamp + first_size x.odts)) none).0 in
    record {
      each = λ k d below. (let one = small k d below in omega (arith, layout.dto_most));
      first = (let one = first-of l x layout none in omega (arith, layout.dto_most));
    }

-- a list that isn't large has room, running or not
list-room : (l : LayoutValue) (x : DaqList) → IsLayout l → IsStampOf l x.stamp → is_large (greatest_size l) x ≡ false → (running selected : Bool) (since : ℕ) → FitsMaxDto l (record x { running = running; selected = selected; since = since })
list-room l x layout s none running selected since = record {
  stamp = s;
  fits = λ e. room-of l x.odts layout (neither-of (any_large (greatest_size l) x.odts) (nat_lt (greatest_size l) (stamp_size x.stamp + first_size x.odts)) none).0;
  first = λ e. first-of l x layout none;
}

switch-by : (l : LayoutValue) (x : DaqList) → IsLayout l → IsList x → FitsMaxDto l x → (stop start : Bool) → (stop ≡ false → is_large (greatest_size l) x ≡ false) → IsList (if stop then stopped x else (if start then started x else selected x)) × FitsMaxDto l (if stop then stopped x else (if start then started x else selected x))
switch-by l x layout h room true start small = (lawful_stopped x (mode_of x) x.selected refl h, idle-room l (stopped x) room.stamp refl)
switch-by l x layout h room false true small = (lawful_started x (mode_of x) x.selected refl h (fits-of l x layout (small refl)), list-room l x layout room.stamp (small refl) true x.selected 0)
switch-by l x layout h room false false small = (lawful_selected x (mode_of x) true refl h, record { stamp = room.stamp; fits = room.fits; first = room.first })

switched_odts_by : (x : DaqList) (stop start : Bool) → (if stop then stopped x else (if start then started x else selected x)).odts ≡ x.odts
switched_odts_by x true start = refl
switched_odts_by x false true = refl
switched_odts_by x false false = refl

guarded : (a b : Bool) → (not a && b) ≡ false → a ≡ false → b ≡ false
guarded true b h e = cc
guarded false b h e = h

-- a START_STOP_DAQ_LIST that isn't refused keeps the DAQ lists lawful, where the layout is within its limits
pub start-stop : (l : LayoutValue) (mode list : ℕ) (v : DaqValue) → IsLayout l → IsLists l v → start_stop_daq_list_refusal l mode list v ≡ None → IsLists l (start_stop_daq_list_after mode list v)
start-stop l mode list v layout h r =
    let a = none-holds ((nat_lt 2 mode, ModeNotValid) ∷ (lacks_list v list, OutOfRange) ∷ (not (mode == 0) && has_large_odt l (list_at v list), DaqConfig) ∷ []) r in
    let b = a.1 in
    let c = b.1 in
    let below : list < length v.lists = is_below _ _ b.0 in
    let x : DaqList = list_at v list in
    let odts = switched_odts_by x (mode == 0) (mode == 1) in
    let s = switch-by l x layout (h.daq.each list no_list below) (room-at l v list h below) (mode == 0) (mode == 1) (guarded (mode == 0) (has_large_odt l x) c.0) in
    with-list l v list (switched mode x) h (lawful_mode v list (switched mode x) h.daq below s.0 odts) (subst (λ (os : List (List (Option Element))). All (LiesWritten l) (joined os)) (sym odts) (entries-at l v list h below)) s.1

same_odts : (g : DaqList → DaqList) → ((x : DaqList) → (g x).odts ≡ x.odts) → (lists : List DaqList) → all_odts (map g lists) ≡ all_odts lists
same_odts g same [] = refl
same_odts g same (x ∷ lists) = ap (λ odts. odts ++ all_odts (map g lists)) (same x) ∙ ap (λ xs. x.odts ++ xs) (same_odts g same lists)

-- each list changes, but for its ODTs
mapped : (l : LayoutValue) (g : DaqList → DaqList) (v : DaqValue) → ((x : DaqList) → (g x).odts ≡ x.odts) → ((i : ℕ) → i < length v.lists → IsList (g (list_at v i)) × FitsMaxDto l (g (list_at v i))) → IsLists l v → IsLists l (record v { lists = map g v.lists })
mapped l g v same each h = record {
  class = h.class;
  daq = lawful_map g v same (λ i below. (each i below).0) h.daq;
  inside = subst (λ (xs : List (List (Option Element))). All (LiesWritten l) (joined xs)) (sym (same_odts g same v.lists)) h.inside;
  room = λ k d below.
      (let short : k < length v.lists = omega (arith, length-map v.lists g) in
      subst (FitsMaxDto l) (sym (get_or-map g v.lists k no_list d short)) (each k short).1);
}

synchronised-room : (l : LayoutValue) (x : DaqList) → IsLayout l → FitsMaxDto l x → (stop chosen start : Bool) → (start ≡ true → chosen ≡ true → is_large (greatest_size l) x ≡ false) → FitsMaxDto l (record (if stop then stopped x else (if not chosen then x else (if start then started x else stopped x))) { selected = false })
synchronised-room l x layout room true chosen start small = record { stamp = room.stamp; fits = λ e. cc; first = λ e. cc }
synchronised-room l x layout room false false start small = record { stamp = room.stamp; fits = room.fits; first = room.first }
synchronised-room l x layout room false true true small = list-room l x layout room.stamp (small refl refl) true false 0
synchronised-room l x layout room false true false small = record { stamp = room.stamp; fits = λ e. cc; first = λ e. cc }

not_both : (a b : Bool) → (a && b) ≡ false → a ≡ true → b ≡ false
not_both true b h e = h
not_both false b h e = cc

-- the same for START_STOP_SYNCH
pub synch : (l : LayoutValue) (mode : ℕ) (v : DaqValue) → IsLayout l → IsLists l v → start_stop_synch_refusal l mode v ≡ None → IsLists l (start_stop_synch_after mode v)
synch l mode v layout h r =
    let a = none-holds ((nat_lt 2 mode, ModeNotValid) ∷ ((mode == 1) && list_any (λ x. x.selected && has_large_odt l x) v.lists, DaqConfig) ∷ []) r in
    let b = a.1 in
    let p : DaqList → Bool = λ x. x.selected && has_large_odt l x in
    let small : (mode == 1) ≡ true → (i : ℕ) → i < length v.lists → (list_at v i).selected ≡ true → is_large (greatest_size l) (list_at v i) ≡ false =
    λ e i below s. not_both (list_at v i).selected (has_large_odt l (list_at v i)) (none-at p v.lists i no_list (not_both (mode == 1) (list_any p v.lists) b.0 e) below (p (list_at v i)) refl) s in
    mapped l (λ x. record (synchronised mode x) { selected = false }) v (synchronised_odts mode)
    (λ i below. (
      lawful_synchronised mode (list_at v i) (h.daq.each i no_list below) (λ e s. fits-of l (list_at v i) layout (small (grind (arith, nat_tests, e)) i below s)),
      synchronised-room l (list_at v i) layout (room-at l v i h below) (mode == 0) (list_at v i).selected (mode == 1) (λ e s. small e i below s),
    ))
    h

counted-room : (l : LayoutValue) (x : DaqList) (n : ℕ) → FitsMaxDto l x → (b : Bool) → FitsMaxDto l (if b then record x { since = n } else x)
counted-room l x n h true = record { stamp = h.stamp; fits = h.fits; first = h.first }
counted-room l x n h false = h

-- the DAQ lists stay lawful when they have counted an event
pub event : (l : LayoutValue) (channel : ℕ) (v : DaqValue) → IsLists l v → IsLists l (after_event channel v)
event l channel v h =
    mapped l (counted channel) v (counted_odts channel)
    (λ i below. (lawful_counted channel (list_at v i) (h.daq.each i no_list below), counted-room l (list_at v i) _ (room-at l v i h below) (counts channel (list_at v i))))
    h

written-class : (size address : ℕ) (v : DaqValue) (o : Option Pointer) → (entry_written o (record { size = size; address = address }) v).class ≡ v.class
written-class size address v None = refl
written-class size address v (Some p) = refl

turns-class : (l : LayoutValue) (es : List DaqElement) (v w : DaqValue) → write_daqs l es v ≡ Ok w → w.class ≡ v.class
turns-class l [] v w r = let same : v ≡ w = cc in ap (λ (x : DaqValue). x.class) (sym same)
turns-class l (e ∷ es) v w r =
    let k = unless-ok _ _ w r in
    turns-class l es (write_daq_after e.size e.address v) w k.1 ∙ written-class e.size e.address v v.pointer

all-class : (v : DaqValue) (r : Result DaqValue Code) → ((w : DaqValue) → r ≡ Ok w → w.class ≡ v.class) → (all_or_none v r).class ≡ v.class
all-class v (Ok w) k = k w refl
all-class v (Err code) k = refl

-- WRITE_DAQ_MULTIPLE leaves the class
pub multiple-class : (l : LayoutValue) (bytes : List ℕ) (v : DaqValue) → (write_daq_multiple_after l bytes v).class ≡ v.class
multiple-class l bytes v = all-class v (multiple l bytes v) (λ w r. turns-class l _ v w r)
