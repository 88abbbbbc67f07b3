-- The ranges of the commands on DAQ lists.
use Rattle.std.proofs.Common.{◌≡◌, ◌≢◌, ℕ, ◌+◌, ◌-◌, ◌<◌, ◌≤◌, Bool, true, false, List, [], ◌∷◌, length, get_or, All, Option, Some, None, refl, sym, subst, ap, ◌∙◌, nat_lt, nat_le, arith, inl, inr}
use Rattle.std.specs.Prelude.{◌↔◌, ◌==◌, ◌&&◌, ◌||◌, ◌⊎◌, not}
use Rattle.std.specs.List.{list_any}
use Rattle.std.proofs.lemmas.Bool.Decides.{nat_tests}
use Rattle.xcp_packet.specs.declared.Code.TheVariants.{AccessDenied, CmdUnknown, DaqActive, DaqConfig, MemoryOverflow, ModeNotValid, OutOfRange, Sequence}
use Rattle.xcp_packet.specs.declared.Command.{Command}
use Rattle.xcp_packet.specs.declared.Command.TheVariants as commands
use Rattle.xcp_packet.specs.declared.Reply.TheVariants as replies
use Rattle.xcp_packet.specs.declared.Stamp.{Stamp}
use Rattle.xcp_packet.specs.declared.Stamp.TheVariants.{Without, Byte, Word, Double}
use Rattle.xcp_packet.specs.TimeStamps.{stamp_size}
use Rattle.xcp_memory.specs.declared.Class.{Class}
use Rattle.xcp_memory.specs.declared.Class.TheVariants.{Papers}
use Rattle.xcp_memory.specs.ClassLimits.{limits_of}
use Rattle.xcp_memory.specs.ComputedAccess.{lies_inside}
use Rattle.xcp_memory.specs.Layout.{LayoutValue}
use Rattle.xcp_memory.specs.Memory.{LiesInside}
use Rattle.xcp_memory.proofs.AreaLaws.{inside_computes, inside_lies}
use Rattle.xcp_daq.specs.AllocationSequence.{may_follow}
use Rattle.xcp_daq.specs.Configuring.{element_rows, has_no_pointer, is_mode, pointed_list_runs, read_daq_reply}
use Rattle.xcp_daq.specs.DaqLists.{DaqList, DaqValue, all_entries, all_odts, any_large, any_running, first_size, greatest_size, has_large_odt, has_stamp, is_large, lacks_entry, lacks_list, lacks_odt, list_at, no_list, odt_at, odt_size}
use Rattle.xcp_daq.specs.declared.Allocation.{Allocation}
use Rattle.xcp_daq.specs.declared.Allocation.TheVariants.{AllocDaq, AllocOdt, AllocOdtEntry, FreeDaq}
use Rattle.xcp_daq.specs.declared.Element.{Element}
use Rattle.xcp_daq.specs.declared.Pointer.{Pointer}
use Rattle.xcp_slave.specs.Outcomes.{Answer}
use Rattle.xcp_slave.specs.DaqRows.{entry_reply}
use Rattle.xcp_slave.specs.SlaveValue.{SlaveValue, layout_of}
use Rattle.xcp_slave.specs.declared.Outcome.TheVariants as answers
use Rattle.xcp_slave.proofs.ListInvariantLemmas.{is_true}
use Rattle.xcp_laws.proofs.PositiveAnswers.{all-pass, also, below, chained, codes-allow, first-refused, five, four, holds-first, implied, is_response, is, is-it, isnt-not, itself, known, lastly, none-pass, not-false, positive, six, some, tests-allow, three, unless, within}
use Rattle.xcp_laws.specs.AskedCommands.{IsAsked, IsPositive}

-- the ODTs of a list, none of which is larger than a packet holds
small-odts : (greatest : ℕ) (odts : List (List (Option Element))) → (any_large greatest odts ≡ false) ↔ All (λ odt. odt_size odt ≤ greatest) odts
small-odts greatest odts =
    let each = all-pass (λ odt. nat_lt greatest (odt_size odt)) odts in
    (λ h i d b. (within _ greatest).0 (each.0 h i d b), λ h. each.1 (λ i d b. (within _ greatest).1 (h i d b)))

neither : (a b : Bool) → ((a || b) ≡ false) ↔ ((a ≡ false) × (b ≡ false))
neither true b = (λ h. (h, cc), λ p. p.0)
neither false b = (λ h. (refl, h), λ p. p.1)

-- nor the first one with the time stamp
small-list : (greatest : ℕ) (l : DaqList) → (is_large greatest l ≡ false) ↔ (All (λ odt. odt_size odt ≤ greatest) l.odts × (stamp_size l.stamp + first_size l.odts ≤ greatest))
small-list greatest l =
    chained (neither (any_large greatest l.odts) (nat_lt greatest (stamp_size l.stamp + first_size l.odts)))
    (also (small-odts greatest l.odts) (within (stamp_size l.stamp + first_size l.odts) greatest))

-- a clock

has-clock : (s : Stamp) → (has_stamp s ≡ true) ↔ (s ≢ Without)
has-clock Without = (λ h. let z : false ≡ true = h in cc, λ n. absurd (n refl))
has-clock Byte = (λ h e. cc, λ n. refl)
has-clock Word = (λ h e. cc, λ n. refl)
has-clock Double = (λ h e. cc, λ n. refl)

-- a test that holds
pub holds : (b : Bool) → (not b ≡ false) ↔ (b ≡ true)
holds b = (is_true b, not-false b)

either-maps : {A B C D : Type 0} → (A → B) → (C → D) → A ⊎ C → B ⊎ D
either-maps f g (inl a) = inl (f a)
either-maps f g (inr c) = inr (g c)

either-of : {A B C D : Type 0} → (A ↔ B) → (C ↔ D) → ((A ⊎ C) ↔ (B ⊎ D))
either-of f g = (λ s. either-maps f.0 g.0 s, λ s. either-maps f.1 g.1 s)

one-holds : (a b : Bool) → ((a || b) ≡ true) ↔ ((a ≡ true) ⊎ (b ≡ true))
one-holds true b = (λ h. inl refl, λ s. refl)
one-holds false b = (λ h. inr h, λ s. elim s [ inl e ↦ cc | inr e ↦ e ])

both-hold : (a b : Bool) → ((a && b) ≡ true) ↔ ((a ≡ true) × (b ≡ true))
both-hold true b = (λ h. (refl, h), λ p. p.1)
both-hold false b = (λ h. (h, cc), λ p. p.0)

-- the modes of a list
list-mode : (l : LayoutValue) (mode : ℕ) → (not (is_mode l mode) ≡ false) ↔ ((mode ≡ 0x00) ⊎ ((mode ≡ 0x10) × (l.clock.stamp ≢ Without)))
list-mode l mode =
    chained (holds (is_mode l mode))
    (chained (one-holds (mode == 0) ((mode == 0x10) && has_stamp l.clock.stamp))
    (either-of (is-it mode 0) (chained (both-hold (mode == 0x10) (has_stamp l.clock.stamp)) (also (is-it mode 0x10) (has-clock l.clock.stamp)))))

-- no list runs
none-runs : (v : DaqValue) → (any_running v ≡ false) ↔ ((i : ℕ) → i < length v.lists → (list_at v i).running ≡ false)
none-runs v = none-pass (λ l. l.running) v.lists no_list

-- what may come before each

comes-after : (kind a b : Allocation) (last : Option Allocation) → may_follow (Some a) kind ≡ true → may_follow (Some b) kind ≡ true → (last ≡ Some a) ⊎ (last ≡ Some b) → not (may_follow last kind) ≡ false
comes-after kind a b last f g (inl e) = not-false _ (ap (λ (o : Option Allocation). may_follow o kind) e ∙ f)
comes-after kind a b last f g (inr e) = not-false _ (ap (λ (o : Option Allocation). may_follow o kind) e ∙ g)

lists-after : (last : Option Allocation) → not (may_follow last AllocDaq) ≡ false → (last ≡ Some FreeDaq) ⊎ (last ≡ Some AllocDaq)
lists-after None h = cc
lists-after (Some FreeDaq) h = inl refl
lists-after (Some AllocDaq) h = inr refl
lists-after (Some AllocOdt) h = cc
lists-after (Some AllocOdtEntry) h = cc

odts-after : (last : Option Allocation) → not (may_follow last AllocOdt) ≡ false → (last ≡ Some AllocDaq) ⊎ (last ≡ Some AllocOdt)
odts-after None h = cc
odts-after (Some FreeDaq) h = cc
odts-after (Some AllocDaq) h = inl refl
odts-after (Some AllocOdt) h = inr refl
odts-after (Some AllocOdtEntry) h = cc

entries-after : (last : Option Allocation) → not (may_follow last AllocOdtEntry) ≡ false → (last ≡ Some AllocOdt) ⊎ (last ≡ Some AllocOdtEntry)
entries-after None h = cc
entries-after (Some FreeDaq) h = cc
entries-after (Some AllocDaq) h = cc
entries-after (Some AllocOdt) h = inl refl
entries-after (Some AllocOdtEntry) h = inr refl

-- the pointer

pointer-there : (o : Option Pointer) → (has_no_pointer o ≡ false) ↔ (o ≢ None)
pointer-there None = (λ h. cc, λ h. absurd (h refl))
pointer-there (Some p) = (λ h e. cc, λ h. refl)

pointed : (v : DaqValue) (p : Pointer) → v.pointer ≡ Some p → has_no_pointer v.pointer ≡ false
pointed v p e = ap has_no_pointer e

-- the list that the pointer names runs or doesn't
pointed-runs : (v : DaqValue) (p : Pointer) → v.pointer ≡ Some p → (pointed_list_runs v.pointer v ≡ false) ↔ ((list_at v p.list).running ≡ false)
pointed-runs v p e =
    let same : pointed_list_runs v.pointer v ≡ (list_at v p.list).running = ap (λ (o : Option Pointer). pointed_list_runs o v) e in
    (λ h. sym same ∙ h, λ h. same ∙ h)

between : (n m : ℕ) → (not (nat_le 1 n && nat_le n m) ≡ false) ↔ ((0 < n) × (n ≤ m))
between n m = (λ h. (grind (arith, nat_tests, h), grind (arith, nat_tests, h)), λ p. grind (arith, nat_tests, p.0, p.1))

pub inside : (l : LayoutValue) (a n : ℕ) → (not (lies_inside l a n) ≡ false) ↔ LiesInside l a n
inside l a n = (λ h. inside_lies l a n (is_true _ h), λ h. not-false _ (inside_computes l a n h))

-- the commands

pub clear-daq-list : (v w : SlaveValue) (i : ℕ) (a : Answer) → IsAsked v (commands.ClearDaqList i) a w → IsPositive a ↔ (i < length v.daq.lists)
clear-daq-list v w i a h =
    chained (positive (commands.ClearDaqList i) v w a replies.Done refl refl h)
    (chained (codes-allow ((lacks_list v.daq i, OutOfRange) ∷ [])) (lastly (below i (length v.daq.lists))))

pub set-daq-ptr : (v w : SlaveValue) (i j k : ℕ) (a : Answer) → IsAsked v (commands.SetDaqPtr i j k) a w → IsPositive a ↔ ((i < length v.daq.lists) × (j < length (list_at v.daq i).odts) × (k < length (get_or (list_at v.daq i).odts j [])))
set-daq-ptr v w i j k a h =
    chained (positive (commands.SetDaqPtr i j k) v w a replies.Done refl refl h)
    (chained (codes-allow ((lacks_list v.daq i, OutOfRange) ∷ (lacks_odt v.daq i j, OutOfRange) ∷ (lacks_entry v.daq i j k, OutOfRange) ∷ []))
    (chained (also (below i (length v.daq.lists)) (also (below j (length (list_at v.daq i).odts)) (lastly (below k (length (odt_at v.daq i j)))))) three))

pub write-daq : (v w : SlaveValue) (offset size extension address : ℕ) (a : Answer) (p : Pointer) → v.daq.pointer ≡ Some p → IsAsked v (commands.WriteDaq offset size extension address) a w → IsPositive a ↔ (((list_at v.daq p.list).running ≡ false) × (offset ≡ 0xFF) × ((0 < size) × (size ≤ (layout_of v).max_dto - 1)) × (extension ≡ 0) × LiesInside (layout_of v) address size)
write-daq v w offset size extension address a p e h =
    let l : LayoutValue = layout_of v in
    chained (positive (commands.WriteDaq offset size extension address) v w a replies.Done refl refl h)
    (chained (codes-allow ((has_no_pointer v.daq.pointer, DaqConfig) ∷ (pointed_list_runs v.daq.pointer v.daq, DaqActive) ∷ (not (offset == 0xFF), OutOfRange) ∷ (not (nat_le 1 size && nat_le size (greatest_size l)), OutOfRange) ∷ (not (extension == 0), OutOfRange) ∷ (not (lies_inside l address size), AccessDenied) ∷ []))
    (chained (known (pointed v.daq p e)
    (also (pointed-runs v.daq p e) (also (is offset 0xFF) (also (between size (greatest_size l)) (also (is extension 0) (lastly (inside l address size))))))) five))

no-pointer : (v : DaqValue) → v.pointer ≡ None → has_no_pointer v.pointer ≡ true
no-pointer v e = ap has_no_pointer e

pub write-nowhere : (v w : SlaveValue) (offset size extension address : ℕ) (a : Answer) → v.daq.pointer ≡ None → IsAsked v (commands.WriteDaq offset size extension address) a w → a ≡ answers.Packets ((0xFE ∷ 0x2A ∷ []) ∷ [])
write-nowhere v w offset size extension address a e h =
    let c : Command = commands.WriteDaq offset size extension address in
    first-refused c v w a (replies.Error DaqConfig) (holds-first (has_no_pointer v.daq.pointer) DaqConfig ((pointed_list_runs v.daq.pointer v.daq, DaqActive) ∷ element_rows (layout_of v) offset size extension address) (no-pointer v.daq e)) h

pub set-daq-list-mode : (v w : SlaveValue) (mode i event prescaler priority : ℕ) (a : Answer) → IsAsked v (commands.SetDaqListMode mode i event prescaler priority) a w → IsPositive a ↔ (((mode ≡ 0x00) ⊎ ((mode ≡ 0x10) × ((layout_of v).clock.stamp ≢ Without))) × (i < length v.daq.lists) × ((list_at v.daq i).running ≡ false) × (event < length (layout_of v).events) × (0 < prescaler))
set-daq-list-mode v w mode i event prescaler priority a h =
    chained (positive (commands.SetDaqListMode mode i event prescaler priority) v w a replies.Done refl refl h)
    (chained (codes-allow ((not (is_mode (layout_of v) mode), ModeNotValid) ∷ (lacks_list v.daq i, OutOfRange) ∷ ((list_at v.daq i).running, DaqActive) ∷ (nat_le (length (layout_of v).events) event, OutOfRange) ∷ (prescaler == 0, OutOfRange) ∷ []))
    (chained (also (list-mode (layout_of v) mode) (also (below i (length v.daq.lists)) (also itself (also (below event (length (layout_of v).events)) (lastly (some prescaler)))))) five))

pub get-daq-list-mode : (v w : SlaveValue) (i : ℕ) (a : Answer) → IsAsked v (commands.GetDaqListMode i) a w → IsPositive a ↔ (i < length v.daq.lists)
get-daq-list-mode v w i a h =
    chained (positive (commands.GetDaqListMode i) v w a _ refl refl h)
    (chained (codes-allow ((lacks_list v.daq i, OutOfRange) ∷ [])) (lastly (below i (length v.daq.lists))))

pub start-stop-daq-list : (v w : SlaveValue) (mode i : ℕ) (a : Answer) → IsAsked v (commands.StartStopDaqList mode i) a w → IsPositive a ↔ ((mode ≤ 2) × (i < length v.daq.lists) × (mode ≢ 0 → All (λ odt. odt_size odt ≤ (layout_of v).max_dto - 1) (list_at v.daq i).odts × (stamp_size (list_at v.daq i).stamp + first_size (list_at v.daq i).odts ≤ (layout_of v).max_dto - 1)))
start-stop-daq-list v w mode i a h =
    chained (positive (commands.StartStopDaqList mode i) v w a _ refl refl h)
    (chained (codes-allow ((nat_lt 2 mode, ModeNotValid) ∷ (lacks_list v.daq i, OutOfRange) ∷ (not (mode == 0) && has_large_odt (layout_of v) (list_at v.daq i), DaqConfig) ∷ []))
    (chained (also (within mode 2) (also (below i (length v.daq.lists))
    (lastly (chained (unless (not (mode == 0)) (has_large_odt (layout_of v) (list_at v.daq i))) (implied (isnt-not mode 0) (small-list (greatest_size (layout_of v)) (list_at v.daq i))))))) three))

-- no list that is selected has an ODT that is too large, nor a first one that is too large with the time stamp
selected-small : (l : LayoutValue) (v : DaqValue) → (list_any (λ x. x.selected && has_large_odt l x) v.lists ≡ false) ↔ ((i : ℕ) → i < length v.lists → (list_at v i).selected ≡ true → All (λ odt. odt_size odt ≤ l.max_dto - 1) (list_at v i).odts × (stamp_size (list_at v i).stamp + first_size (list_at v i).odts ≤ l.max_dto - 1))
selected-small l v =
    let each = none-pass (λ (x : DaqList). x.selected && has_large_odt l x) v.lists no_list in
    let one = λ (i : ℕ). (chained (unless (list_at v i).selected (has_large_odt l (list_at v i))) (implied itself (small-list (greatest_size l) (list_at v i)))) in
    (λ h i b. (one i).0 (each.0 h i b), λ h. each.1 (λ i b. (one i).1 (h i b)))

pub start-stop-synch : (v w : SlaveValue) (mode : ℕ) (a : Answer) → IsAsked v (commands.StartStopSynch mode) a w → IsPositive a ↔ ((mode ≤ 2) × (mode ≡ 1 → (i : ℕ) → i < length v.daq.lists → (list_at v.daq i).selected ≡ true → All (λ odt. odt_size odt ≤ (layout_of v).max_dto - 1) (list_at v.daq i).odts × (stamp_size (list_at v.daq i).stamp + first_size (list_at v.daq i).odts ≤ (layout_of v).max_dto - 1)))
start-stop-synch v w mode a h =
    let large : Bool = list_any (λ x. x.selected && has_large_odt (layout_of v) x) v.daq.lists in
    chained (positive (commands.StartStopSynch mode) v w a replies.Done refl refl h)
    (chained (codes-allow ((nat_lt 2 mode, ModeNotValid) ∷ ((mode == 1) && large, DaqConfig) ∷ []))
    (also (within mode 2) (lastly (chained (unless (mode == 1) large) (implied (is-it mode 1) (selected-small (layout_of v) v.daq))))))

pub get-daq-clock : (v w : SlaveValue) (a : Answer) → IsAsked v commands.GetDaqClock a w → IsPositive a ↔ ((layout_of v).clock.stamp ≢ Without)
get-daq-clock v w a h =
    chained (positive commands.GetDaqClock v w a _ refl refl h)
    (chained (tests-allow ((not (has_stamp (layout_of v).clock.stamp), replies.Error CmdUnknown) ∷ []))
    (lastly (chained (holds (has_stamp (layout_of v).clock.stamp)) (has-clock (layout_of v).clock.stamp))))

entry-response : (o : Option Element) → is_response (entry_reply o) ≡ true
entry-response None = refl
entry-response (Some e) = refl

pub read-daq : (v w : SlaveValue) (a : Answer) → IsAsked v commands.ReadDaq a w → IsPositive a ↔ (v.daq.pointer ≢ None)
read-daq v w a h =
    chained (positive commands.ReadDaq v w a _ refl (entry-response (read_daq_reply v.daq)) h)
    (chained (codes-allow ((has_no_pointer v.daq.pointer, DaqConfig) ∷ [])) (lastly (pointer-there v.daq.pointer)))

pub get-daq-event-info : (v w : SlaveValue) (channel : ℕ) (a : Answer) → IsAsked v (commands.GetDaqEventInfo channel) a w → IsPositive a ↔ (channel < length (layout_of v).events)
get-daq-event-info v w channel a h =
    chained (positive (commands.GetDaqEventInfo channel) v w a _ refl refl h)
    (chained (codes-allow ((nat_le (length (layout_of v).events) channel, OutOfRange) ∷ [])) (lastly (below channel (length (layout_of v).events))))

pub alloc-daq : (v w : SlaveValue) (count : ℕ) (a : Answer) → IsAsked v (commands.AllocDaq count) a w → IsPositive a ↔ (((v.daq.last ≡ Some FreeDaq) ⊎ (v.daq.last ≡ Some AllocDaq)) × ((i : ℕ) → i < length v.daq.lists → (list_at v.daq i).running ≡ false) × (0 < count) × (length v.daq.lists + count ≤ (limits_of v.daq.class).lists))
alloc-daq v w count a h =
    chained (positive (commands.AllocDaq count) v w a replies.Done refl refl h)
    (chained (codes-allow ((not (may_follow v.daq.last AllocDaq), Sequence) ∷ (any_running v.daq, DaqActive) ∷ (count == 0, OutOfRange) ∷ (nat_lt (limits_of v.daq.class).lists (length v.daq.lists + count), MemoryOverflow) ∷ []))
    (chained (also (lists-after v.daq.last, comes-after AllocDaq FreeDaq AllocDaq v.daq.last refl refl) (also (none-runs v.daq) (also (some count) (lastly (within _ (limits_of v.daq.class).lists))))) four))

pub alloc-odt : (v w : SlaveValue) (i count : ℕ) (a : Answer) → IsAsked v (commands.AllocOdt i count) a w → IsPositive a ↔ (((v.daq.last ≡ Some AllocDaq) ⊎ (v.daq.last ≡ Some AllocOdt)) × (i < length v.daq.lists) × ((k : ℕ) → k < length v.daq.lists → (list_at v.daq k).running ≡ false) × (0 < count) × (length (all_odts v.daq.lists) + count ≤ (limits_of v.daq.class).odts))
alloc-odt v w i count a h =
    chained (positive (commands.AllocOdt i count) v w a replies.Done refl refl h)
    (chained (codes-allow ((not (may_follow v.daq.last AllocOdt), Sequence) ∷ (lacks_list v.daq i, OutOfRange) ∷ (any_running v.daq, DaqActive) ∷ (count == 0, OutOfRange) ∷ (nat_lt (limits_of v.daq.class).odts (length (all_odts v.daq.lists) + count), MemoryOverflow) ∷ []))
    (chained (also (odts-after v.daq.last, comes-after AllocOdt AllocDaq AllocOdt v.daq.last refl refl) (also (below i (length v.daq.lists)) (also (none-runs v.daq) (also (some count) (lastly (within _ (limits_of v.daq.class).odts)))))) five))

pub alloc-odt-entry : (v w : SlaveValue) (i j count : ℕ) (a : Answer) → IsAsked v (commands.AllocOdtEntry i j count) a w → IsPositive a ↔ (((v.daq.last ≡ Some AllocOdt) ⊎ (v.daq.last ≡ Some AllocOdtEntry)) × (i < length v.daq.lists) × (j < length (list_at v.daq i).odts) × ((list_at v.daq i).running ≡ false) × (0 < count) × (length (all_entries v.daq.lists) + count ≤ (limits_of v.daq.class).entries))
alloc-odt-entry v w i j count a h =
    chained (positive (commands.AllocOdtEntry i j count) v w a replies.Done refl refl h)
    (chained (codes-allow ((not (may_follow v.daq.last AllocOdtEntry), Sequence) ∷ (lacks_list v.daq i, OutOfRange) ∷ (lacks_odt v.daq i j, OutOfRange) ∷ ((list_at v.daq i).running, DaqActive) ∷ (count == 0, OutOfRange) ∷ (nat_lt (limits_of v.daq.class).entries (length (all_entries v.daq.lists) + count), MemoryOverflow) ∷ []))
    (chained (also (entries-after v.daq.last, comes-after AllocOdtEntry AllocOdt AllocOdtEntry v.daq.last refl refl) (also (below i (length v.daq.lists)) (also (below j (length (list_at v.daq i).odts)) (also itself (also (some count) (lastly (within _ (limits_of v.daq.class).entries))))))) six))

-- the limits of the class of 2,040 bytes
pub papers-limits : (class : Class) → class ≡ Papers → ((limits_of class).lists ≡ 16) × ((limits_of class).odts ≡ 64) × ((limits_of class).entries ≡ 256)
papers-limits class e = subst (λ (c : Class). ((limits_of c).lists ≡ 16) × ((limits_of c).odts ≡ 64) × ((limits_of c).entries ≡ 256)) (sym e) (refl, refl, refl)
