-- What is allocated and freed of DAQ lists.
use Rattle.std.proofs.Common.{◌≡◌, ◌≢◌, ℕ, ◌+◌, ◌-◌, ◌<◌, ◌≤◌, Bool, true, false, List, [], ◌∷◌, ◌++◌, get_or, length, slice_set, Option, Some, None, refl, sym, ap, ◌∙◌, nat_lt, arith, length-append}
use Rattle.std.specs.Prelude.{◌==◌, not, replicate}
use Rattle.std.proofs.lemmas.Bool.Decides.{nat_tests}
use Rattle.std.proofs.lemmas.List.{get_or_append_left, get_or-append_right, get_or_past, get_or-replicate, get_or-set_other, get_or-set_same, length-replicate, length-set}
use Rattle.xcp_packet.specs.declared.Code.TheVariants.{DaqActive, MemoryOverflow, OutOfRange, Sequence}
use Rattle.xcp_packet.specs.declared.Command.TheVariants as commands
use Rattle.xcp_packet.specs.declared.Stamp.TheVariants.{Without}
use Rattle.xcp_memory.specs.ClassLimits.{limits_of}
use Rattle.xcp_daq.specs.AllocationSequence.{may_follow}
use Rattle.xcp_daq.specs.DaqLists.{DaqList, all_entries, all_odts, any_running, lacks_list, lacks_odt, list_at, no_list}
use Rattle.xcp_daq.specs.declared.Allocation.{Allocation}
use Rattle.xcp_daq.specs.declared.Allocation.TheVariants.{AllocDaq, AllocOdt, AllocOdtEntry, FreeDaq}
use Rattle.xcp_daq.specs.declared.Element.{Element}
use Rattle.xcp_slave.specs.AcceptedCommands.{Accepts}
use Rattle.xcp_slave.specs.SlaveValue.{SlaveValue, noblock}
use Rattle.xcp_slave.proofs.AcceptedCommandLaws.{accepted}
use Rattle.xcp_slave.proofs.ListInvariantLemmas.{none-holds, is_below}
use Rattle.xcp_slave.proofs.TransferInvariantLemmas.{none-refused}

-- members that are added behind others

added-count : {X : Type 0} (xs : List X) (n : ℕ) (x : X) → length (xs ++ replicate n x) ≡ length xs + n
added-count xs n x = length-append xs (replicate n x) ∙ ap (λ (k : ℕ). length xs + k) (length-replicate n x)

same-by : {X : Type 0} (t : Bool) (n k : ℕ) (x : X) → nat_lt k n ≡ t → get_or (replicate n x) k x ≡ x
same-by true n k x e = get_or-replicate n k x x (grind (arith, nat_tests, e))
same-by false n k x e =
    let long : length (replicate n x) ≡ n = length-replicate n x in
    let past : n ≤ k = grind (arith, nat_tests, e) in
    get_or_past (replicate n x) k x (omega (arith, long, past))

added-new : {X : Type 0} (xs : List X) (n i : ℕ) (x : X) → length xs ≤ i → get_or (xs ++ replicate n x) i x ≡ x
added-new xs n i x past = get_or-append_right xs (replicate n x) (length xs) i x refl past ∙ same-by (nat_lt (i - length xs) n) n (i - length xs) x refl

pub lists-freed : (v w : SlaveValue) (bytes : List ℕ) → Accepts v commands.FreeDaq bytes w → w ≡ record (noblock v) { daq = record { class = v.daq.class; lists = []; pointer = None; last = Some FreeDaq } }
lists-freed v w bytes h = (accepted commands.FreeDaq v bytes w h).after

-- nothing changes but the lists and the last allocation
lists-alone : (v w : SlaveValue) (lists : List DaqList) (last : Option Allocation) → w ≡ record (noblock v) { daq = record v.daq { lists = lists; last = last } } → w ≡ record (noblock v) { daq = record v.daq { lists = w.daq.lists; last = last } }
lists-alone v w lists last e = e ∙ ap (λ (l : List DaqList). record (noblock v) { daq = record v.daq { lists = l; last = last } }) (sym (ap (λ (x : SlaveValue). x.daq.lists) e))

-- ALLOC_DAQ

lists-after : (v w : SlaveValue) (count : ℕ) (bytes : List ℕ) → Accepts v (commands.AllocDaq count) bytes w → w.daq.lists ≡ v.daq.lists ++ replicate count no_list
lists-after v w count bytes h = ap (λ (x : SlaveValue). x.daq.lists) (accepted (commands.AllocDaq count) v bytes w h).after

pub list-count : (v w : SlaveValue) (count : ℕ) (bytes : List ℕ) → Accepts v (commands.AllocDaq count) bytes w → length w.daq.lists ≡ length v.daq.lists + count
list-count v w count bytes h = ap length (lists-after v w count bytes h) ∙ added-count v.daq.lists count no_list

pub lists-kept : (v w : SlaveValue) (count i : ℕ) (bytes : List ℕ) → Accepts v (commands.AllocDaq count) bytes w → i < length v.daq.lists → list_at w.daq i ≡ list_at v.daq i
lists-kept v w count i bytes h below =
    ap (λ (xs : List DaqList). get_or xs i no_list) (lists-after v w count bytes h)
    ∙ get_or_append_left v.daq.lists (replicate count no_list) no_list i below

pub lists-new : (v w : SlaveValue) (count i : ℕ) (bytes : List ℕ) → Accepts v (commands.AllocDaq count) bytes w → length v.daq.lists ≤ i → list_at w.daq i ≡ record { event = 0; prescaler = 1; priority = 0; running = false; selected = false; since = 0; stamp = Without; odts = [] }
lists-new v w count i bytes h past =
    ap (λ (xs : List DaqList). get_or xs i no_list) (lists-after v w count bytes h)
    ∙ added-new v.daq.lists count i no_list past

pub lists-rest : (v w : SlaveValue) (count : ℕ) (bytes : List ℕ) → Accepts v (commands.AllocDaq count) bytes w → w ≡ record (noblock v) { daq = record v.daq { lists = w.daq.lists; last = Some AllocDaq } }
lists-rest v w count bytes h = lists-alone v w _ (Some AllocDaq) (accepted (commands.AllocDaq count) v bytes w h).after

-- ALLOC_ODT

odt-below : (v w : SlaveValue) (i count : ℕ) (bytes : List ℕ) → Accepts v (commands.AllocOdt i count) bytes w → i < length v.daq.lists
odt-below v w i count bytes h =
    let k = accepted (commands.AllocOdt i count) v bytes w h in
    let a = none-holds ((not (may_follow v.daq.last AllocOdt), Sequence) ∷ (lacks_list v.daq i, OutOfRange) ∷ (any_running v.daq, DaqActive) ∷ (count == 0, OutOfRange) ∷ (nat_lt (limits_of v.daq.class).odts (length (all_odts v.daq.lists) + count), MemoryOverflow) ∷ []) (none-refused _ k.allowed) in
    is_below _ _ a.1.0

-- a list with more ODTs
more_odts : ℕ → DaqList → DaqList
more_odts count l = record l { odts = l.odts ++ replicate count [] }

odts-after : (v w : SlaveValue) (i count : ℕ) (bytes : List ℕ) → Accepts v (commands.AllocOdt i count) bytes w → list_at w.daq i ≡ more_odts count (list_at v.daq i)
unfolding more_odts
odts-after v w i count bytes h =
    ap (λ (x : SlaveValue). list_at x.daq i) (accepted (commands.AllocOdt i count) v bytes w h).after
    ∙ get_or-set_same v.daq.lists i (more_odts count (list_at v.daq i)) no_list (odt-below v w i count bytes h)

odts-then : (v w : SlaveValue) (i count : ℕ) (bytes : List ℕ) → Accepts v (commands.AllocOdt i count) bytes w → (list_at w.daq i).odts ≡ (list_at v.daq i).odts ++ replicate count []
unfolding more_odts
odts-then v w i count bytes h = ap (λ (l : DaqList). l.odts) (odts-after v w i count bytes h)

pub odt-count : (v w : SlaveValue) (i count : ℕ) (bytes : List ℕ) → Accepts v (commands.AllocOdt i count) bytes w → length (list_at w.daq i).odts ≡ length (list_at v.daq i).odts + count
odt-count v w i count bytes h = ap length (odts-then v w i count bytes h) ∙ added-count (list_at v.daq i).odts count []

pub odts-kept : (v w : SlaveValue) (i count j : ℕ) (bytes : List ℕ) → Accepts v (commands.AllocOdt i count) bytes w → j < length (list_at v.daq i).odts → get_or (list_at w.daq i).odts j [] ≡ get_or (list_at v.daq i).odts j []
odts-kept v w i count j bytes h below =
    ap (λ (xs : List (List (Option Element))). get_or xs j []) (odts-then v w i count bytes h)
    ∙ get_or_append_left (list_at v.daq i).odts (replicate count []) [] j below

pub odts-new : (v w : SlaveValue) (i count j : ℕ) (bytes : List ℕ) → Accepts v (commands.AllocOdt i count) bytes w → length (list_at v.daq i).odts ≤ j → get_or (list_at w.daq i).odts j [] ≡ []
odts-new v w i count j bytes h past =
    ap (λ (xs : List (List (Option Element))). get_or xs j []) (odts-then v w i count bytes h)
    ∙ added-new (list_at v.daq i).odts count j [] past

with-odts : (l m : DaqList) (odts : List (List (Option Element))) → m ≡ record l { odts = odts } → m ≡ record l { odts = m.odts }
with-odts l m odts e = e ∙ ap (λ (o : List (List (Option Element))). record l { odts = o }) (sym (ap (λ (x : DaqList). x.odts) e))

pub odt-list : (v w : SlaveValue) (i count : ℕ) (bytes : List ℕ) → Accepts v (commands.AllocOdt i count) bytes w → list_at w.daq i ≡ record (list_at v.daq i) { odts = (list_at w.daq i).odts }
unfolding more_odts
odt-list v w i count bytes h = with-odts (list_at v.daq i) (list_at w.daq i) _ (odts-after v w i count bytes h)

pub odt-others : (v w : SlaveValue) (i count k : ℕ) (bytes : List ℕ) → Accepts v (commands.AllocOdt i count) bytes w → k ≢ i → list_at w.daq k ≡ list_at v.daq k
odt-others v w i count k bytes h other =
    ap (λ (x : SlaveValue). list_at x.daq k) (accepted (commands.AllocOdt i count) v bytes w h).after
    ∙ get_or-set_other v.daq.lists i k _ no_list other

pub odt-rest : (v w : SlaveValue) (i count : ℕ) (bytes : List ℕ) → Accepts v (commands.AllocOdt i count) bytes w → w ≡ record (noblock v) { daq = record v.daq { lists = w.daq.lists; last = Some AllocOdt } }
odt-rest v w i count bytes h = lists-alone v w _ (Some AllocOdt) (accepted (commands.AllocOdt i count) v bytes w h).after

-- ALLOC_ODT_ENTRY

-- there are the list and the ODT
entry-below : (v w : SlaveValue) (i j count : ℕ) (bytes : List ℕ) → Accepts v (commands.AllocOdtEntry i j count) bytes w → (i < length v.daq.lists) × (j < length (list_at v.daq i).odts)
entry-below v w i j count bytes h =
    let k = accepted (commands.AllocOdtEntry i j count) v bytes w h in
    let a = none-holds ((not (may_follow v.daq.last AllocOdtEntry), Sequence) ∷ (lacks_list v.daq i, OutOfRange) ∷ (lacks_odt v.daq i j, OutOfRange) ∷ ((list_at v.daq i).running, DaqActive) ∷ (count == 0, OutOfRange) ∷ (nat_lt (limits_of v.daq.class).entries (length (all_entries v.daq.lists) + count), MemoryOverflow) ∷ []) (none-refused _ k.allowed) in
    (is_below _ _ a.1.0, is_below _ _ a.1.1.0)

-- a list with more entries in an ODT
more_entries : ℕ → ℕ → DaqList → DaqList
more_entries j count l = record l { odts = slice_set l.odts j (get_or l.odts j [] ++ replicate count None) }

entries-after : (v w : SlaveValue) (i j count : ℕ) (bytes : List ℕ) → Accepts v (commands.AllocOdtEntry i j count) bytes w → list_at w.daq i ≡ more_entries j count (list_at v.daq i)
unfolding more_entries
entries-after v w i j count bytes h =
    ap (λ (x : SlaveValue). list_at x.daq i) (accepted (commands.AllocOdtEntry i j count) v bytes w h).after
    ∙ get_or-set_same v.daq.lists i (more_entries j count (list_at v.daq i)) no_list (entry-below v w i j count bytes h).0

entries-then : (v w : SlaveValue) (i j count : ℕ) (bytes : List ℕ) → Accepts v (commands.AllocOdtEntry i j count) bytes w → get_or (list_at w.daq i).odts j [] ≡ get_or (list_at v.daq i).odts j [] ++ replicate count None
unfolding more_entries
entries-then v w i j count bytes h =
    ap (λ (l : DaqList). get_or l.odts j []) (entries-after v w i j count bytes h)
    ∙ get_or-set_same (list_at v.daq i).odts j (get_or (list_at v.daq i).odts j [] ++ replicate count None) [] (entry-below v w i j count bytes h).1

pub entry-count : (v w : SlaveValue) (i j count : ℕ) (bytes : List ℕ) → Accepts v (commands.AllocOdtEntry i j count) bytes w → length (get_or (list_at w.daq i).odts j []) ≡ length (get_or (list_at v.daq i).odts j []) + count
entry-count v w i j count bytes h = ap length (entries-then v w i j count bytes h) ∙ added-count (get_or (list_at v.daq i).odts j []) count None

pub entries-kept : (v w : SlaveValue) (i j count k : ℕ) (bytes : List ℕ) → Accepts v (commands.AllocOdtEntry i j count) bytes w → k < length (get_or (list_at v.daq i).odts j []) → get_or (get_or (list_at w.daq i).odts j []) k None ≡ get_or (get_or (list_at v.daq i).odts j []) k None
entries-kept v w i j count k bytes h below =
    ap (λ (odt : List (Option Element)). get_or odt k None) (entries-then v w i j count bytes h)
    ∙ get_or_append_left (get_or (list_at v.daq i).odts j []) (replicate count None) None k below

pub entries-new : (v w : SlaveValue) (i j count k : ℕ) (bytes : List ℕ) → Accepts v (commands.AllocOdtEntry i j count) bytes w → length (get_or (list_at v.daq i).odts j []) ≤ k → get_or (get_or (list_at w.daq i).odts j []) k None ≡ None
entries-new v w i j count k bytes h past =
    ap (λ (odt : List (Option Element)). get_or odt k None) (entries-then v w i j count bytes h)
    ∙ added-new (get_or (list_at v.daq i).odts j []) count k None past

pub entry-odts : (v w : SlaveValue) (i j count k : ℕ) (bytes : List ℕ) → Accepts v (commands.AllocOdtEntry i j count) bytes w → k ≢ j → get_or (list_at w.daq i).odts k [] ≡ get_or (list_at v.daq i).odts k []
unfolding more_entries
entry-odts v w i j count k bytes h other =
    ap (λ (l : DaqList). get_or l.odts k []) (entries-after v w i j count bytes h)
    ∙ get_or-set_other (list_at v.daq i).odts j k _ [] other

pub entry-list : (v w : SlaveValue) (i j count : ℕ) (bytes : List ℕ) → Accepts v (commands.AllocOdtEntry i j count) bytes w → (list_at w.daq i ≡ record (list_at v.daq i) { odts = (list_at w.daq i).odts }) × (length (list_at w.daq i).odts ≡ length (list_at v.daq i).odts)
unfolding more_entries
entry-list v w i j count bytes h =
    let after = entries-after v w i j count bytes h in (
      with-odts (list_at v.daq i) (list_at w.daq i) _ after,
      ap (λ (l : DaqList). length l.odts) after ∙ length-set (list_at v.daq i).odts j (get_or (list_at v.daq i).odts j [] ++ replicate count None),
    )

pub entry-others : (v w : SlaveValue) (i j count k : ℕ) (bytes : List ℕ) → Accepts v (commands.AllocOdtEntry i j count) bytes w → k ≢ i → list_at w.daq k ≡ list_at v.daq k
entry-others v w i j count k bytes h other =
    ap (λ (x : SlaveValue). list_at x.daq k) (accepted (commands.AllocOdtEntry i j count) v bytes w h).after
    ∙ get_or-set_other v.daq.lists i k _ no_list other

pub entry-rest : (v w : SlaveValue) (i j count : ℕ) (bytes : List ℕ) → Accepts v (commands.AllocOdtEntry i j count) bytes w → w ≡ record (noblock v) { daq = record v.daq { lists = w.daq.lists; last = Some AllocOdtEntry } }
entry-rest v w i j count bytes h = lists-alone v w _ (Some AllocOdtEntry) (accepted (commands.AllocOdtEntry i j count) v bytes w h).after
