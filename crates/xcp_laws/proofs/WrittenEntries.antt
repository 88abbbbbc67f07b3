-- What is set, written and read of DAQ lists.
use Rattle.std.proofs.Common.{◌≡◌, ◌≢◌, ℕ, ◌+◌, ◌<◌, ◌≤◌, Bool, true, false, List, [], ◌∷◌, drop, get_or, length, slice_set, zero, suc, Option, Some, None, refl, sym, ap, subst, ◌∙◌, nat_le, nat_lt, arith, inl, inr}
use Rattle.std.specs.Prelude.{◌==◌, ◌&&◌, ◌||◌, ◌⊎◌, not, if◌then◌else◌}
use Rattle.std.proofs.lemmas.Bool.Decides.{nat_tests}
use Rattle.std.proofs.lemmas.List.{get_or-set_same, get_or-set_other}
use Rattle.xcp_packet.specs.ByteOrder.{double_bytes}
use Rattle.xcp_packet.specs.ReplyPacket.{layout}
use Rattle.xcp_packet.specs.declared.Command.TheVariants as commands
use Rattle.xcp_packet.specs.declared.Code.{Code}
use Rattle.xcp_packet.specs.declared.Code.TheVariants.{DaqActive, ModeNotValid, OutOfRange}
use Rattle.xcp_packet.specs.declared.Stamp.{Stamp}
use Rattle.xcp_packet.specs.declared.Stamp.TheVariants.{Without}
use Rattle.xcp_memory.specs.Layout.{LayoutValue}
use Rattle.xcp_daq.specs.Configuring.{entry_by, is_mode, moved_by, moved_on, stamp_asked, entry_written}
use Rattle.xcp_daq.specs.DaqInvariant.{IsPointer, IsPointerOf}
use Rattle.xcp_daq.specs.DaqLists.{DaqList, DaqValue, has_stamp, lacks_list, list_at, no_list, odt_at}
use Rattle.xcp_daq.specs.declared.Element.{Element}
use Rattle.xcp_daq.specs.declared.Pointer.{Pointer}
use Rattle.xcp_slave.specs.AcceptedCommands.{Accepts}
use Rattle.xcp_slave.specs.DaqRows.{entry_reply}
use Rattle.xcp_slave.specs.SlaveInvariant.{IsSlave}
use Rattle.xcp_slave.specs.SlaveValue.{SlaveValue, layout_of, noblock}
use Rattle.xcp_slave.proofs.AcceptedCommandLaws.{accepted}
use Rattle.xcp_slave.proofs.ListInvariantLemmas.{NoneHolds, none-holds, is_below}
use Rattle.xcp_slave.proofs.TransferInvariantLemmas.{none-refused}
use Rattle.xcp_laws.proofs.PositiveAnswers.{is-it}
use Rattle.xcp_laws.proofs.ToldValues.{bytes-told}

-- SET_DAQ_LIST_MODE

-- the list with this mode
in-mode : SlaveValue → ℕ → ℕ → ℕ → ℕ → ℕ → DaqList
in-mode v mode i event prescaler priority = record (list_at v.daq i) { event = event; prescaler = prescaler; priority = priority; stamp = stamp_asked (layout_of v) mode }

abbrev mode-tests : SlaveValue → ℕ → ℕ → ℕ → ℕ → List (Bool × Code)
mode-tests v mode i event prescaler = (not (is_mode (layout_of v) mode), ModeNotValid) ∷ (lacks_list v.daq i, OutOfRange) ∷ ((list_at v.daq i).running, DaqActive) ∷ (nat_le (length (layout_of v).events) event, OutOfRange) ∷ (prescaler == 0, OutOfRange) ∷ []

mode-passed : (v w : SlaveValue) (mode i event prescaler priority : ℕ) (bytes : List ℕ) → Accepts v (commands.SetDaqListMode mode i event prescaler priority) bytes w → NoneHolds (mode-tests v mode i event prescaler)
mode-passed v w mode i event prescaler priority bytes h =
    none-holds (mode-tests v mode i event prescaler) (none-refused _ (accepted (commands.SetDaqListMode mode i event prescaler priority) v bytes w h).allowed)

mode-after : (v w : SlaveValue) (mode i event prescaler priority : ℕ) (bytes : List ℕ) → Accepts v (commands.SetDaqListMode mode i event prescaler priority) bytes w → list_at w.daq i ≡ in-mode v mode i event prescaler priority
unfolding in-mode
mode-after v w mode i event prescaler priority bytes h =
    ap (λ (x : SlaveValue). list_at x.daq i) (accepted (commands.SetDaqListMode mode i event prescaler priority) v bytes w h).after
    ∙ get_or-set_same v.daq.lists i (in-mode v mode i event prescaler priority) no_list (is_below _ _ (mode-passed v w mode i event prescaler priority bytes h).1.0)

same-mode : (a b : DaqList) (event prescaler priority : ℕ) (s : Stamp) → a ≡ record b { event = event; prescaler = prescaler; priority = priority; stamp = s } → a ≡ record b { event = event; prescaler = prescaler; priority = priority; stamp = a.stamp }
same-mode a b event prescaler priority s e = e ∙ ap (λ (x : Stamp). record b { event = event; prescaler = prescaler; priority = priority; stamp = x }) (sym (ap (λ (l : DaqList). l.stamp) e))

pub mode-set : (v w : SlaveValue) (mode i event prescaler priority : ℕ) (bytes : List ℕ) → Accepts v (commands.SetDaqListMode mode i event prescaler priority) bytes w → list_at w.daq i ≡ record (list_at v.daq i) { event = event; prescaler = prescaler; priority = priority; stamp = (list_at w.daq i).stamp }
unfolding in-mode
mode-set v w mode i event prescaler priority bytes h =
    same-mode (list_at w.daq i) (list_at v.daq i) event prescaler priority (stamp_asked (layout_of v) mode) (mode-after v w mode i event prescaler priority bytes h)

-- the time stamp of each mode
stamp-by : (t u : Bool) (m : ℕ) (s x : Stamp) → (m == 0) ≡ t → (m == 0x10) ≡ u → not (t || (u && has_stamp s)) ≡ false → x ≡ (if t then Without else s) → ((m ≡ 0x00) × (x ≡ Without)) ⊎ ((m ≡ 0x10) × (x ≡ s))
stamp-by true u m s x e f h k = inl ((is-it m 0).0 e, k)
stamp-by false true m s x e f h k = inr ((is-it m 0x10).0 f, k)
stamp-by false false m s x e f h k = absurd (let z : true ≡ false = h in cc)

pub mode-stamp : (v w : SlaveValue) (mode i event prescaler priority : ℕ) (bytes : List ℕ) → Accepts v (commands.SetDaqListMode mode i event prescaler priority) bytes w → ((mode ≡ 0x00) × ((list_at w.daq i).stamp ≡ Without)) ⊎ ((mode ≡ 0x10) × ((list_at w.daq i).stamp ≡ (layout_of v).clock.stamp))
unfolding in-mode
mode-stamp v w mode i event prescaler priority bytes h =
    stamp-by (mode == 0) (mode == 0x10) mode (layout_of v).clock.stamp (list_at w.daq i).stamp refl refl
    (mode-passed v w mode i event prescaler priority bytes h).0
    (ap (λ (l : DaqList). l.stamp) (mode-after v w mode i event prescaler priority bytes h))

pub mode-others : (v w : SlaveValue) (mode i event prescaler priority k : ℕ) (bytes : List ℕ) → Accepts v (commands.SetDaqListMode mode i event prescaler priority) bytes w → k ≢ i → list_at w.daq k ≡ list_at v.daq k
unfolding in-mode
mode-others v w mode i event prescaler priority k bytes h other =
    ap (λ (x : SlaveValue). list_at x.daq k) (accepted (commands.SetDaqListMode mode i event prescaler priority) v bytes w h).after
    ∙ get_or-set_other v.daq.lists i k (in-mode v mode i event prescaler priority) no_list other

-- nothing changes but these lists
same-rest : (v w : SlaveValue) (lists : List DaqList) → w ≡ record (noblock v) { daq = record v.daq { lists = lists } } → w ≡ record (noblock v) { daq = record v.daq { lists = w.daq.lists } }
same-rest v w lists e = e ∙ ap (λ (l : List DaqList). record (noblock v) { daq = record v.daq { lists = l } }) (sym (ap (λ (x : SlaveValue). x.daq.lists) e))

pub mode-rest : (v w : SlaveValue) (mode i event prescaler priority : ℕ) (bytes : List ℕ) → Accepts v (commands.SetDaqListMode mode i event prescaler priority) bytes w → w ≡ record (noblock v) { daq = record v.daq { lists = w.daq.lists } }
unfolding in-mode
mode-rest v w mode i event prescaler priority bytes h =
    same-rest v w (slice_set v.daq.lists i (in-mode v mode i event prescaler priority)) (accepted (commands.SetDaqListMode mode i event prescaler priority) v bytes w h).after

-- the pointer

pub pointer-set : (v w : SlaveValue) (i j k : ℕ) (bytes : List ℕ) → Accepts v (commands.SetDaqPtr i j k) bytes w → w ≡ record (noblock v) { daq = record v.daq { pointer = Some (record { list = i; odt = j; entry = k }) } }
pointer-set v w i j k bytes h = (accepted (commands.SetDaqPtr i j k) v bytes w h).after

moves : (t : Bool) (p : Pointer) → t ≡ true → (if t then Some (record p { entry = p.entry + 1 }) else None) ≡ Some (record p { entry = p.entry + 1 })
moves true p e = refl
moves false p e = cc

ends : (t : Bool) (p : Pointer) → t ≡ false → ◌≡◌ {A = Option Pointer} (if t then Some (record p { entry = p.entry + 1 }) else None) None
ends true p e = cc
ends false p e = refl

on-next : (d : DaqValue) (p : Pointer) → p.entry + 1 < length (get_or (list_at d p.list).odts p.odt []) → moved_on d p ≡ Some (record p { entry = p.entry + 1 })
on-next d p below = moves (nat_lt (p.entry + 1) (length (odt_at d p.list p.odt))) p (grind (arith, nat_tests, below))

on-none : (d : DaqValue) (p : Pointer) → length (get_or (list_at d p.list).odts p.odt []) ≤ p.entry + 1 → moved_on d p ≡ None
on-none d p past = ends (nat_lt (p.entry + 1) (length (odt_at d p.list p.odt))) p (grind (arith, nat_tests, past))

-- WRITE_DAQ

-- the lists once the entry at a pointer is written
written : DaqValue → Pointer → Element → DaqValue
written d p e = entry_written (Some p) e d

after-write : (v w : SlaveValue) (p : Pointer) (offset size extension address : ℕ) (bytes : List ℕ) → v.daq.pointer ≡ Some p → Accepts v (commands.WriteDaq offset size extension address) bytes w → w.daq ≡ written v.daq p (record { size = size; address = address })
unfolding written
after-write v w p offset size extension address bytes e h =
    ap (λ (x : SlaveValue). x.daq) (accepted (commands.WriteDaq offset size extension address) v bytes w h).after
    ∙ ap (λ (o : Option Pointer). entry_written o (record { size = size; address = address }) v.daq) e

-- the pointer of a slave names an entry that there is
names-entry : (d : DaqValue) (p : Pointer) (o : Option Pointer) → o ≡ Some p → IsPointerOf d o → IsPointer d p
names-entry d p o e h = subst (λ (x : Option Pointer). IsPointerOf d x) e h

-- the entry at three places
abbrev entry_at : DaqValue → ℕ → ℕ → ℕ → Option Element
entry_at d i j k = get_or (get_or (list_at d i).odts j []) k None

-- an entry of an ODT of a list that are set

put-odt : (d : DaqValue) (p : Pointer) (e : Element) → IsPointer d p → list_at (written d p e) p.list ≡ record (list_at d p.list) { odts = slice_set (list_at d p.list).odts p.odt (slice_set (odt_at d p.list p.odt) p.entry (Some e)) }
unfolding written
put-odt d p e h = get_or-set_same d.lists p.list _ no_list h.list

put-entry : (d : DaqValue) (p : Pointer) (e : Element) → IsPointer d p → entry_at (written d p e) p.list p.odt p.entry ≡ Some e
put-entry d p e h =
    ap (λ (l : DaqList). get_or (get_or l.odts p.odt []) p.entry None) (put-odt d p e h)
    ∙ ap (λ (odt : List (Option Element)). get_or odt p.entry None) (get_or-set_same (list_at d p.list).odts p.odt (slice_set (odt_at d p.list p.odt) p.entry (Some e)) [] h.odt)
    ∙ get_or-set_same (odt_at d p.list p.odt) p.entry (Some e) None h.entry

pub entry-written : (v w : SlaveValue) (p : Pointer) (offset size extension address : ℕ) (bytes : List ℕ) → IsSlave v → v.daq.pointer ≡ Some p → Accepts v (commands.WriteDaq offset size extension address) bytes w → get_or (get_or (list_at w.daq p.list).odts p.odt []) p.entry None ≡ Some (record { size = size; address = address })
entry-written v w p offset size extension address bytes s e h =
    ap (λ (d : DaqValue). entry_at d p.list p.odt p.entry) (after-write v w p offset size extension address bytes e h)
    ∙ put-entry v.daq p (record { size = size; address = address }) (names-entry v.daq p v.daq.pointer e s.lists.daq.pointer)

-- what is the same of a member and of the one that is put in its place is the same of each
set-keeps : {X Y : Type 0} (f : X → Y) (xs : List X) (j i : ℕ) (s d : X) → f s ≡ f (get_or xs j d) → f (get_or (slice_set xs j s) i d) ≡ f (get_or xs i d)
set-keeps f [] j i s d h = refl
set-keeps f (x ∷ xs) zero zero s d h = h
set-keeps f (x ∷ xs) zero (suc i) s d h = refl
set-keeps f (x ∷ xs) (suc j) zero s d h = refl
set-keeps f (x ∷ xs) (suc j) (suc i) s d h = set-keeps f xs j i s d h

-- an entry of a list's ODTs
abbrev entry_of : ℕ → ℕ → DaqList → Option Element
entry_of j k l = get_or (get_or l.odts j []) k None

-- another entry of an ODT that is set
other-entry : (l : DaqList) (p : Pointer) (e : Element) (j k : ℕ) → (j ≢ p.odt) ⊎ (k ≢ p.entry) → entry_of j k (record l { odts = slice_set l.odts p.odt (slice_set (get_or l.odts p.odt []) p.entry (Some e)) }) ≡ entry_of j k l
other-entry l p e j k (inl other) = ap (λ (odt : List (Option Element)). get_or odt k None) (get_or-set_other l.odts p.odt j (slice_set (get_or l.odts p.odt []) p.entry (Some e)) [] other)
other-entry l p e j k (inr other) =
    set-keeps (λ (odt : List (Option Element)). get_or odt k None) l.odts p.odt j (slice_set (get_or l.odts p.odt []) p.entry (Some e)) []
    (get_or-set_other (get_or l.odts p.odt []) p.entry k (Some e) None other)

put-others : (d : DaqValue) (p : Pointer) (e : Element) (i j k : ℕ) → (i ≢ p.list) ⊎ ((j ≢ p.odt) ⊎ (k ≢ p.entry)) → entry_at (written d p e) i j k ≡ entry_at d i j k
unfolding written
put-others d p e i j k (inl other) = ap (entry_of j k) (get_or-set_other d.lists p.list i _ no_list other)
put-others d p e i j k (inr other) = set-keeps (entry_of j k) d.lists p.list i _ no_list (other-entry (list_at d p.list) p e j k other)

pub entry-others : (v w : SlaveValue) (p : Pointer) (offset size extension address i j k : ℕ) (bytes : List ℕ) → v.daq.pointer ≡ Some p → Accepts v (commands.WriteDaq offset size extension address) bytes w → (i ≢ p.list) ⊎ ((j ≢ p.odt) ⊎ (k ≢ p.entry)) → get_or (get_or (list_at w.daq i).odts j []) k None ≡ get_or (get_or (list_at v.daq i).odts j []) k None
entry-others v w p offset size extension address i j k bytes e h other =
    ap (λ (d : DaqValue). entry_at d i j k) (after-write v w p offset size extension address bytes e h)
    ∙ put-others v.daq p (record { size = size; address = address }) i j k other

-- a list without its ODTs
abbrev bare : DaqList → DaqList
bare l = record l { odts = [] }

same-bare : (a b : DaqList) → bare a ≡ bare b → a ≡ record b { odts = a.odts }
same-bare a b h = ap (λ (l : DaqList). record l { odts = a.odts }) h

written-lists : (o : Option Pointer) (d : DaqValue) (e : Element) (i : ℕ) → bare (list_at (entry_written o e d) i) ≡ bare (list_at d i)
written-lists None d e i = refl
written-lists (Some p) d e i = set-keeps bare d.lists p.list i _ no_list refl

pub lists-kept : (v w : SlaveValue) (offset size extension address i : ℕ) (bytes : List ℕ) → Accepts v (commands.WriteDaq offset size extension address) bytes w → list_at w.daq i ≡ record (list_at v.daq i) { odts = (list_at w.daq i).odts }
lists-kept v w offset size extension address i bytes h =
    same-bare (list_at w.daq i) (list_at v.daq i)
    (ap (λ (x : SlaveValue). bare (list_at x.daq i)) (accepted (commands.WriteDaq offset size extension address) v bytes w h).after
    ∙ written-lists v.daq.pointer v.daq (record { size = size; address = address }) i)

pointer-after : (v w : SlaveValue) (p : Pointer) (offset size extension address : ℕ) (bytes : List ℕ) → v.daq.pointer ≡ Some p → Accepts v (commands.WriteDaq offset size extension address) bytes w → w.daq.pointer ≡ moved_on v.daq p
unfolding written
pointer-after v w p offset size extension address bytes e h = ap (λ (d : DaqValue). d.pointer) (after-write v w p offset size extension address bytes e h)

pub write-next : (v w : SlaveValue) (p : Pointer) (offset size extension address : ℕ) (bytes : List ℕ) → v.daq.pointer ≡ Some p → p.entry + 1 < length (get_or (list_at v.daq p.list).odts p.odt []) → Accepts v (commands.WriteDaq offset size extension address) bytes w → w.daq.pointer ≡ Some (record p { entry = p.entry + 1 })
write-next v w p offset size extension address bytes e below h = pointer-after v w p offset size extension address bytes e h ∙ on-next v.daq p below

pub write-last : (v w : SlaveValue) (p : Pointer) (offset size extension address : ℕ) (bytes : List ℕ) → v.daq.pointer ≡ Some p → length (get_or (list_at v.daq p.list).odts p.odt []) ≤ p.entry + 1 → Accepts v (commands.WriteDaq offset size extension address) bytes w → w.daq.pointer ≡ None
write-last v w p offset size extension address bytes e past h = pointer-after v w p offset size extension address bytes e h ∙ on-none v.daq p past

-- READ_DAQ

-- the bytes of the reply to READ_DAQ
abbrev entry_bytes : SlaveValue → Option Element → List ℕ
entry_bytes v o = drop 1 (layout (layout_of v).order (entry_reply o))

read-told : (v w : SlaveValue) (p : Pointer) (o : Option Element) (bytes : List ℕ) → v.daq.pointer ≡ Some p → entry_at v.daq p.list p.odt p.entry ≡ o → Accepts v commands.ReadDaq bytes w → bytes ≡ entry_bytes v o
read-told v w p o bytes e is h =
    bytes-told commands.ReadDaq v bytes w h
    ∙ ap (λ (x : Option Pointer). entry_bytes v (entry_by x v.daq)) e
    ∙ ap (entry_bytes v) is

pub entry-told : (v w : SlaveValue) (p : Pointer) (e : Element) (bytes : List ℕ) → v.daq.pointer ≡ Some p → get_or (get_or (list_at v.daq p.list).odts p.odt []) p.entry None ≡ Some e → Accepts v commands.ReadDaq bytes w → bytes ≡ 0xFF ∷ e.size ∷ 0 ∷ double_bytes (layout_of v).order e.address
entry-told v w p e bytes at is h = read-told v w p (Some e) bytes at is h

pub unwritten-told : (v w : SlaveValue) (p : Pointer) (bytes : List ℕ) → v.daq.pointer ≡ Some p → get_or (get_or (list_at v.daq p.list).odts p.odt []) p.entry None ≡ None → Accepts v commands.ReadDaq bytes w → bytes ≡ 0xFF ∷ 0 ∷ 0 ∷ double_bytes (layout_of v).order 0
unwritten-told v w p bytes at is h = read-told v w p None bytes at is h

after-read : (v w : SlaveValue) (p : Pointer) (bytes : List ℕ) → v.daq.pointer ≡ Some p → Accepts v commands.ReadDaq bytes w → w ≡ record (noblock v) { daq = record v.daq { pointer = moved_on v.daq p } }
after-read v w p bytes e h =
    (accepted commands.ReadDaq v bytes w h).after
    ∙ ap (λ (o : Option Pointer). record (noblock v) { daq = moved_by o v.daq }) e

with-pointer : SlaveValue → Option Pointer → SlaveValue
with-pointer v o = record (noblock v) { daq = record v.daq { pointer = o } }

pub read-next : (v w : SlaveValue) (p : Pointer) (bytes : List ℕ) → v.daq.pointer ≡ Some p → p.entry + 1 < length (get_or (list_at v.daq p.list).odts p.odt []) → Accepts v commands.ReadDaq bytes w → w ≡ record (noblock v) { daq = record v.daq { pointer = Some (record p { entry = p.entry + 1 }) } }
unfolding with-pointer
read-next v w p bytes e below h = after-read v w p bytes e h ∙ ap (with-pointer v) (on-next v.daq p below)

pub read-last : (v w : SlaveValue) (p : Pointer) (bytes : List ℕ) → v.daq.pointer ≡ Some p → length (get_or (list_at v.daq p.list).odts p.odt []) ≤ p.entry + 1 → Accepts v commands.ReadDaq bytes w → w ≡ record (noblock v) { daq = record v.daq { pointer = None } }
unfolding with-pointer
read-last v w p bytes e past h = after-read v w p bytes e h ∙ ap (with-pointer v) (on-none v.daq p past)

pub written-read : (v w x z : SlaveValue) (p : Pointer) (offset size extension address : ℕ) (first second bytes : List ℕ) → IsSlave v → v.daq.pointer ≡ Some p → Accepts v (commands.WriteDaq offset size extension address) first w → Accepts w (commands.SetDaqPtr p.list p.odt p.entry) second x → Accepts x commands.ReadDaq bytes z → bytes ≡ 0xFF ∷ size ∷ 0 ∷ double_bytes (layout_of v).order address
written-read v w x z p offset size extension address first second bytes s e write set read =
    let element : Element = record { size = size; address = address } in
    let stands : entry_at w.daq p.list p.odt p.entry ≡ Some element = entry-written v w p offset size extension address first s e write in
    let there : x ≡ record (noblock w) { daq = record w.daq { pointer = Some p } } = pointer-set w x p.list p.odt p.entry second set in
    let same : layout_of x ≡ layout_of v = ap layout_of there ∙ ap layout_of (accepted (commands.WriteDaq offset size extension address) v first w write).after in
    entry-told x z p element bytes (ap (λ (y : SlaveValue). y.daq.pointer) there) (ap (λ (y : SlaveValue). entry_at y.daq p.list p.odt p.entry) there ∙ stands) read
    ∙ ap (λ (l : LayoutValue). 0xFF ∷ size ∷ 0 ∷ double_bytes l.order address) same
