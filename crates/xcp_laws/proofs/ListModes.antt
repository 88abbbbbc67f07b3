-- The modes of lists that are switched and cleared.
use Rattle.std.proofs.Common.{◌≡◌, ◌≢◌, ℕ, zero, suc, ◌<◌, Bool, true, false, List, [], ◌∷◌, get_or, length, map, Option, None, refl, sym, ap, ◌∙◌, nat_lt}
use Rattle.std.specs.Prelude.{◌==◌, ◌&&◌, not, if◌then◌else◌}
use Rattle.std.proofs.lemmas.List.{get_or-set_same, get_or-set_other, length-map}
use Rattle.xcp_packet.specs.declared.Command.TheVariants as commands
use Rattle.xcp_packet.specs.declared.Code.TheVariants.{OutOfRange, DaqConfig, ModeNotValid}
use Rattle.xcp_daq.specs.declared.Element.{Element}
use Rattle.xcp_daq.specs.Configuring.{cleared}
use Rattle.xcp_daq.specs.DaqLists.{DaqList, has_large_odt, lacks_list, list_at, no_list}
use Rattle.xcp_daq.specs.Starting.{switched, synchronised}
use Rattle.xcp_slave.specs.AcceptedCommands.{Accepts}
use Rattle.xcp_slave.specs.SlaveValue.{SlaveValue, layout_of}
use Rattle.xcp_slave.proofs.AcceptedCommandLaws.{accepted}
use Rattle.xcp_slave.proofs.ListInvariantLemmas.{none-holds, is_below}
use Rattle.xcp_slave.proofs.TransferInvariantLemmas.{none-refused}

-- one list

switch-below : (v w : SlaveValue) (mode i : ℕ) (bytes : List ℕ) → Accepts v (commands.StartStopDaqList mode i) bytes w → i < length v.daq.lists
switch-below v w mode i bytes h =
    let k = accepted (commands.StartStopDaqList mode i) v bytes w h in
    let a = none-holds ((nat_lt 2 mode, ModeNotValid) ∷ (lacks_list v.daq i, OutOfRange) ∷ (not (mode == 0) && has_large_odt (layout_of v) (list_at v.daq i), DaqConfig) ∷ []) (none-refused _ k.allowed) in
    is_below _ _ a.1.0

switch-after : (v w : SlaveValue) (mode i : ℕ) (bytes : List ℕ) → Accepts v (commands.StartStopDaqList mode i) bytes w → list_at w.daq i ≡ switched mode (list_at v.daq i)
switch-after v w mode i bytes h =
    ap (λ (x : SlaveValue). list_at x.daq i) (accepted (commands.StartStopDaqList mode i) v bytes w h).after
    ∙ get_or-set_same v.daq.lists i (switched mode (list_at v.daq i)) no_list (switch-below v w mode i bytes h)

pub list-started : (v w : SlaveValue) (i : ℕ) (bytes : List ℕ) → Accepts v (commands.StartStopDaqList 1 i) bytes w → list_at w.daq i ≡ record (list_at v.daq i) { running = true; since = 0 }
list-started v w i bytes h = switch-after v w 1 i bytes h

pub list-stopped : (v w : SlaveValue) (i : ℕ) (bytes : List ℕ) → Accepts v (commands.StartStopDaqList 0 i) bytes w → list_at w.daq i ≡ record (list_at v.daq i) { running = false; since = 0 }
list-stopped v w i bytes h = switch-after v w 0 i bytes h

pub list-selected : (v w : SlaveValue) (i : ℕ) (bytes : List ℕ) → Accepts v (commands.StartStopDaqList 2 i) bytes w → list_at w.daq i ≡ record (list_at v.daq i) { selected = true }
list-selected v w i bytes h = switch-after v w 2 i bytes h

pub list-others : (v w : SlaveValue) (mode i k : ℕ) (bytes : List ℕ) → Accepts v (commands.StartStopDaqList mode i) bytes w → k ≢ i → list_at w.daq k ≡ list_at v.daq k
list-others v w mode i k bytes h other =
    ap (λ (x : SlaveValue). list_at x.daq k) (accepted (commands.StartStopDaqList mode i) v bytes w h).after
    ∙ get_or-set_other v.daq.lists i k (switched mode (list_at v.daq i)) no_list other

-- all that are selected

-- what START_STOP_SYNCH makes of a list
together : ℕ → DaqList → DaqList
together mode l = record (synchronised mode l) { selected = false }

none-by : (a b : Bool) → record (if a then record no_list { running = false; since = 0 } else (if not false then no_list else (if b then record no_list { running = true; since = 0 } else record no_list { running = false; since = 0 }))) { selected = false } ≡ no_list
none-by true b = refl
none-by false b = refl

-- a list that there isn't stays what it is
none-together : (mode : ℕ) → together mode no_list ≡ no_list
unfolding together
none-together mode = none-by (mode == 0) (mode == 1)

mapped : (mode : ℕ) (lists : List DaqList) (i : ℕ) → get_or (map (together mode) lists) i no_list ≡ together mode (get_or lists i no_list)
mapped mode [] i = sym (none-together mode)
mapped mode (l ∷ lists) zero = refl
mapped mode (l ∷ lists) (suc i) = mapped mode lists i

synch-after : (v w : SlaveValue) (mode i : ℕ) (bytes : List ℕ) → Accepts v (commands.StartStopSynch mode) bytes w → list_at w.daq i ≡ together mode (list_at v.daq i)
unfolding together
synch-after v w mode i bytes h =
    ap (λ (x : SlaveValue). list_at x.daq i) (accepted (commands.StartStopSynch mode) v bytes w h).after
    ∙ mapped mode v.daq.lists i

pub synch-stops-all : (v w : SlaveValue) (i : ℕ) (bytes : List ℕ) → Accepts v (commands.StartStopSynch 0) bytes w → (list_at w.daq i).running ≡ false
unfolding together
synch-stops-all v w i bytes h = ap (λ (l : DaqList). l.running) (synch-after v w 0 i bytes h)

chosen-started : (l : DaqList) (s : Bool) → s ≡ true → record (if not s then l else record l { running = true; since = 0 }) { selected = false } ≡ record l { running = true; selected = false; since = 0 }
chosen-started l true e = refl
chosen-started l false e = cc

chosen-stopped : (l : DaqList) (s : Bool) → s ≡ true → record (if not s then l else record l { running = false; since = 0 }) { selected = false } ≡ record l { running = false; selected = false; since = 0 }
chosen-stopped l true e = refl
chosen-stopped l false e = cc

left : (l m : DaqList) (s : Bool) → l.selected ≡ s → s ≡ false → record (if not s then l else m) { selected = false } ≡ l
left l m true f e = cc
left l m false f e = ap (λ (b : Bool). record l { selected = b }) (sym f)

pub synch-starts : (v w : SlaveValue) (i : ℕ) (bytes : List ℕ) → Accepts v (commands.StartStopSynch 1) bytes w → (list_at v.daq i).selected ≡ true → list_at w.daq i ≡ record (list_at v.daq i) { running = true; selected = false; since = 0 }
unfolding together
synch-starts v w i bytes h s = synch-after v w 1 i bytes h ∙ chosen-started (list_at v.daq i) (list_at v.daq i).selected s

pub synch-stops : (v w : SlaveValue) (i : ℕ) (bytes : List ℕ) → Accepts v (commands.StartStopSynch 2) bytes w → (list_at v.daq i).selected ≡ true → list_at w.daq i ≡ record (list_at v.daq i) { running = false; selected = false; since = 0 }
unfolding together
synch-stops v w i bytes h s = synch-after v w 2 i bytes h ∙ chosen-stopped (list_at v.daq i) (list_at v.daq i).selected s

pub synch-leaves : (v w : SlaveValue) (i : ℕ) (bytes : List ℕ) → Accepts v (commands.StartStopSynch 1) bytes w → (list_at v.daq i).selected ≡ false → list_at w.daq i ≡ list_at v.daq i
unfolding together
synch-leaves v w i bytes h s = let l = list_at v.daq i in synch-after v w 1 i bytes h ∙ left l (record l { running = true; since = 0 }) l.selected refl s

pub synch-leaves-too : (v w : SlaveValue) (i : ℕ) (bytes : List ℕ) → Accepts v (commands.StartStopSynch 2) bytes w → (list_at v.daq i).selected ≡ false → list_at w.daq i ≡ list_at v.daq i
unfolding together
synch-leaves-too v w i bytes h s = let l = list_at v.daq i in synch-after v w 2 i bytes h ∙ left l (record l { running = false; since = 0 }) l.selected refl s

pub synch-unselects : (v w : SlaveValue) (mode i : ℕ) (bytes : List ℕ) → Accepts v (commands.StartStopSynch mode) bytes w → (list_at w.daq i).selected ≡ false
unfolding together
synch-unselects v w mode i bytes h = ap (λ (l : DaqList). l.selected) (synch-after v w mode i bytes h)

-- a list that is cleared

clear-below : (v w : SlaveValue) (i : ℕ) (bytes : List ℕ) → Accepts v (commands.ClearDaqList i) bytes w → i < length v.daq.lists
clear-below v w i bytes h =
    let a = none-holds ((lacks_list v.daq i, OutOfRange) ∷ []) (none-refused _ (accepted (commands.ClearDaqList i) v bytes w h).allowed) in
    is_below _ _ a.0

clear-after : (v w : SlaveValue) (i : ℕ) (bytes : List ℕ) → Accepts v (commands.ClearDaqList i) bytes w → list_at w.daq i ≡ cleared (list_at v.daq i)
clear-after v w i bytes h =
    ap (λ (x : SlaveValue). list_at x.daq i) (accepted (commands.ClearDaqList i) v bytes w h).after
    ∙ get_or-set_same v.daq.lists i (cleared (list_at v.daq i)) no_list (clear-below v w i bytes h)

pub clear-stops : (v w : SlaveValue) (i : ℕ) (bytes : List ℕ) → Accepts v (commands.ClearDaqList i) bytes w → (list_at w.daq i).running ≡ false
clear-stops v w i bytes h = ap (λ (l : DaqList). l.running) (clear-after v w i bytes h)

pub clear-unselects : (v w : SlaveValue) (i : ℕ) (bytes : List ℕ) → Accepts v (commands.ClearDaqList i) bytes w → (list_at w.daq i).selected ≡ false
clear-unselects v w i bytes h = ap (λ (l : DaqList). l.selected) (clear-after v w i bytes h)

-- all entries unwritten
unwritten : List (Option Element) → List (Option Element)
unwritten odt = map (λ entry. None) odt

no-entry : (odt : List (Option Element)) (k : ℕ) → get_or (unwritten odt) k None ≡ None
unfolding unwritten
no-entry [] k = refl
no-entry (e ∷ odt) zero = refl
no-entry (e ∷ odt) (suc k) = no-entry odt k

odt-at : (odts : List (List (Option Element))) (j : ℕ) → get_or (map unwritten odts) j [] ≡ unwritten (get_or odts j [])
unfolding unwritten
odt-at [] j = refl
odt-at (odt ∷ odts) zero = refl
odt-at (odt ∷ odts) (suc j) = odt-at odts j

cleared-odts : (v w : SlaveValue) (i : ℕ) (bytes : List ℕ) → Accepts v (commands.ClearDaqList i) bytes w → (list_at w.daq i).odts ≡ map unwritten (list_at v.daq i).odts
unfolding unwritten
cleared-odts v w i bytes h = ap (λ (l : DaqList). l.odts) (clear-after v w i bytes h)

pub clear-empties : (v w : SlaveValue) (i j k : ℕ) (bytes : List ℕ) → Accepts v (commands.ClearDaqList i) bytes w → get_or (get_or (list_at w.daq i).odts j []) k None ≡ None
clear-empties v w i j k bytes h =
    ap (λ (odts : List (List (Option Element))). get_or (get_or odts j []) k None) (cleared-odts v w i bytes h)
    ∙ ap (λ (odt : List (Option Element)). get_or odt k None) (odt-at (list_at v.daq i).odts j)
    ∙ no-entry (get_or (list_at v.daq i).odts j []) k

pub clear-keeps-odts : (v w : SlaveValue) (i : ℕ) (bytes : List ℕ) → Accepts v (commands.ClearDaqList i) bytes w → length (list_at w.daq i).odts ≡ length (list_at v.daq i).odts
clear-keeps-odts v w i bytes h =
    ap (λ (odts : List (List (Option Element))). length odts) (cleared-odts v w i bytes h) ∙ length-map (list_at v.daq i).odts unwritten

pub clear-keeps-entries : (v w : SlaveValue) (i j : ℕ) (bytes : List ℕ) → Accepts v (commands.ClearDaqList i) bytes w → length (get_or (list_at w.daq i).odts j []) ≡ length (get_or (list_at v.daq i).odts j [])
unfolding unwritten
clear-keeps-entries v w i j bytes h =
    ap (λ (odts : List (List (Option Element))). length (get_or odts j [])) (cleared-odts v w i bytes h)
    ∙ ap (λ (odt : List (Option Element)). length odt) (odt-at (list_at v.daq i).odts j)
    ∙ length-map (get_or (list_at v.daq i).odts j []) (λ (entry : Option Element). None)

pub clear-keeps : (v w : SlaveValue) (i : ℕ) (bytes : List ℕ) → Accepts v (commands.ClearDaqList i) bytes w → list_at w.daq i ≡ record (list_at v.daq i) { running = false; selected = false; since = 0; odts = (list_at w.daq i).odts }
unfolding unwritten
clear-keeps v w i bytes h =
    clear-after v w i bytes h
    ∙ ap (λ (odts : List (List (Option Element))). record (list_at v.daq i) { running = false; selected = false; since = 0; odts = odts }) (sym (cleared-odts v w i bytes h))

pub clear-others : (v w : SlaveValue) (i k : ℕ) (bytes : List ℕ) → Accepts v (commands.ClearDaqList i) bytes w → k ≢ i → list_at w.daq k ≡ list_at v.daq k
clear-others v w i k bytes h other =
    ap (λ (x : SlaveValue). list_at x.daq k) (accepted (commands.ClearDaqList i) v bytes w h).after
    ∙ get_or-set_other v.daq.lists i k (cleared (list_at v.daq i)) no_list other
