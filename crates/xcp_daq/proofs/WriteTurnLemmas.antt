-- WRITE_DAQs in turn: what their refusals depend on, and how the lists go from one to the next.
use Rattle.std.proofs.Common.{◌≡◌, ℕ, zero, suc, ◌+◌, ◌-◌, ◌*◌, ◌<◌, Bool, List, [], ◌∷◌, length, drop, get_or, slice_set, Option, Some, None, Result, ap, sym, ◌∙◌, refl, subst, arith}
use Rattle.std.specs.Prelude.{if◌then◌else◌, nat_lt}
use Rattle.std.specs.Result.{result_err}
use Rattle.std.proofs.lemmas.List.{length-set, drop-drop}
use Rattle.xcp_packet.specs.declared.Code.{Code}
use Rattle.xcp_packet.specs.declared.Code.TheVariants.{DaqConfig, DaqActive}
use Rattle.xcp_packet.specs.declared.Order.{Order}
use Rattle.xcp_packet.specs.Rows.{first_holding}
use Rattle.xcp_memory.specs.Layout.{LayoutValue}
use Rattle.xcp_daq.specs.declared.daq_element.DaqElement.{DaqElement}
use Rattle.xcp_daq.specs.declared.element.Element.{Element}
use Rattle.xcp_daq.specs.declared.pointer.Pointer.{Pointer}
use Rattle.xcp_daq.specs.DaqLists.{DaqValue, DaqList, no_list, list_at, odt_at}
use Rattle.xcp_daq.specs.Configuring.{has_no_pointer, pointed_list_runs, element_rows, moved_on, entry_written, write_daq_refusal, write_daq_after, element_in, elements_in, unless, write_daqs}

-- a list runs as before where the ODTs of one list change
running_set : (ls : List DaqList) (i k : ℕ) (os : List (List (Option Element))) → (get_or (slice_set ls i (record (get_or ls i no_list) { odts = os })) k no_list).running ≡ (get_or ls k no_list).running
running_set [] i k os = refl
running_set (l ∷ ls) zero zero os = refl
running_set (l ∷ ls) zero (suc k) os = refl
running_set (l ∷ ls) (suc i) zero os = refl
running_set (l ∷ ls) (suc i) (suc k) os = running_set ls i k os

-- ODTs have as many entries as before where one entry is written
lengths_set : (os : List (List (Option Element))) (j b k : ℕ) (e : Option Element) → length (get_or (slice_set os j (slice_set (get_or os j []) k e)) b []) ≡ length (get_or os b [])
lengths_set [] j b k e = refl
lengths_set (o ∷ os) zero zero k e = length-set o k e
lengths_set (o ∷ os) zero (suc b) k e = refl
lengths_set (o ∷ os) (suc j) zero k e = refl
lengths_set (o ∷ os) (suc j) (suc b) k e = lengths_set os j b k e

entries_set : (ls : List DaqList) (i a j b k : ℕ) (e : Option Element) → length (get_or (get_or (slice_set ls i (record (get_or ls i no_list) { odts = slice_set (get_or ls i no_list).odts j (slice_set (get_or (get_or ls i no_list).odts j []) k e) })) a no_list).odts b []) ≡ length (get_or (get_or ls a no_list).odts b [])
entries_set [] i a j b k e = refl
entries_set (l ∷ ls) zero zero j b k e = lengths_set l.odts j b k e
entries_set (l ∷ ls) zero (suc a) j b k e = refl
entries_set (l ∷ ls) (suc i) zero j b k e = refl
entries_set (l ∷ ls) (suc i) (suc a) j b k e = entries_set ls i a j b k e

-- the pointer, which lists run, and how many entries there are: what the refusals of WRITE_DAQs depend on
pub record Alike (v w : DaqValue) : Type 0 where
  pub pointer : v.pointer ≡ w.pointer
  pub running : (i : ℕ) → (list_at v i).running ≡ (list_at w i).running
  pub entries : (i j : ℕ) → length (odt_at v i j) ≡ length (odt_at w i j)

pointed_alike : (v w : DaqValue) (p : Option Pointer) → Alike v w → pointed_list_runs p v ≡ pointed_list_runs p w
pointed_alike v w None h = refl
pointed_alike v w (Some p) h = h.running p.list

refusal_alike : (layout : LayoutValue) (offset size extension address : ℕ) (v w : DaqValue) → Alike v w → write_daq_refusal layout offset size extension address v ≡ write_daq_refusal layout offset size extension address w
refusal_alike layout offset size extension address v w h =
    ap (λ (b : Bool). first_holding ((has_no_pointer v.pointer, DaqConfig) ∷ (b, DaqActive) ∷ element_rows layout offset size extension address)) (pointed_alike v w v.pointer h)
    ∙ ap (λ (p : Option Pointer). first_holding ((has_no_pointer p, DaqConfig) ∷ (pointed_list_runs p w, DaqActive) ∷ element_rows layout offset size extension address)) h.pointer

-- the pointer moves on by the number of entries alone
moved_alike : (v w : DaqValue) (p : Pointer) → Alike v w → moved_on v p ≡ moved_on w p
moved_alike v w p h = ap (λ (n : ℕ). if nat_lt (p.entry + 1) n then Some (record p { entry = p.entry + 1 }) else None) (h.entries p.list p.odt)

-- a written entry changes the pointer alone
written_kept : (p : Option Pointer) (e : Element) (v : DaqValue) → Alike (entry_written p e v) (record v { pointer = (entry_written p e v).pointer })
written_kept None e v = record { pointer = refl; running = λ i. refl; entries = λ i j. refl }
written_kept (Some p) e v = record {
  pointer = refl;
  running = λ i. running_set v.lists p.list i _;
  entries = λ i j. entries_set v.lists p.list i p.odt j p.entry (Some e);
}

written_alike : (p : Option Pointer) (e : Element) (v w : DaqValue) → Alike v w → Alike (entry_written p e v) (entry_written p e w)
written_alike None e v w h = h
written_alike (Some p) e v w h = record {
  pointer = moved_alike v w p h;
  running = λ i. running_set v.lists p.list i _ ∙ h.running i ∙ sym (running_set w.lists p.list i _);
  entries = λ i j. entries_set v.lists p.list i p.odt j p.entry (Some e) ∙ h.entries i j ∙ sym (entries_set w.lists p.list i p.odt j p.entry (Some e));
}

after_alike : (size address : ℕ) (v w : DaqValue) → Alike v w → Alike (write_daq_after size address v) (write_daq_after size address w)
after_alike size address v w h =
    let e : Element = record { size = size; address = address } in
    subst (λ (p : Option Pointer). Alike (entry_written v.pointer e v) (entry_written p e w)) h.pointer (written_alike v.pointer e v w h)

same_behind : (o : Option Code) (r s : Result DaqValue Code) → result_err r ≡ result_err s → result_err (unless o r) ≡ result_err (unless o s)
same_behind None r s h = h
same_behind (Some code) r s h = refl

-- so the refusals of WRITE_DAQs in turn are the same
turns_alike : (layout : LayoutValue) (es : List DaqElement) (v w : DaqValue) → Alike v w → result_err (write_daqs layout es v) ≡ result_err (write_daqs layout es w)
turns_alike layout [] v w h = refl
turns_alike layout (e ∷ es) v w h =
    ap (λ (o : Option Code). result_err (unless o (write_daqs layout es (write_daq_after e.size e.address v)))) (refusal_alike layout e.offset e.size e.extension e.address v w h)
    ∙ same_behind (write_daq_refusal layout e.offset e.size e.extension e.address w) (write_daqs layout es (write_daq_after e.size e.address v)) (write_daqs layout es (write_daq_after e.size e.address w)) (turns_alike layout es _ _ (after_alike e.size e.address v w h))

-- the elements from number k on are element k and those from the next on
pub elements_more : (order : Order) (n k : ℕ) (p : List ℕ) → k < n → elements_in order (n - k) (drop (8 * k) p) ≡ element_in order (drop (8 * k) p) ∷ elements_in order (n - (k + 1)) (drop (8 * (k + 1)) p)
elements_more order n k p h =
    let q : List ℕ = drop (8 * k) p in
    let count : n - k ≡ suc (n - (k + 1)) = omega arith in
    let place : 8 * k + 8 ≡ 8 * (k + 1) = omega arith in
    ap (λ (m : ℕ). elements_in order m q) count
    ∙ ap (λ (r : List ℕ). element_in order q ∷ elements_in order (n - (k + 1)) r) (drop-drop 8 (8 * k) p ∙ ap (λ (i : ℕ). drop i p) place)

-- what is read at element k's place is element k
pub element_is : (order o : Order) (p q : List ℕ) (e : DaqElement) → e ≡ element_in o q → o ≡ order → q ≡ p → e ≡ element_in order p
element_is order o p q e is a b = is ∙ ap (λ (x : Order). element_in x q) a ∙ ap (element_in order) b

-- a WRITE_DAQ that isn't refused gives way to those behind it
pub turn : (layout : LayoutValue) (order : Order) (n k : ℕ) (p : List ℕ) (e : DaqElement) (v : DaqValue) → k < n → e ≡ element_in order (drop (8 * k) p) → write_daq_refusal layout e.offset e.size e.extension e.address v ≡ None → write_daqs layout (elements_in order (n - k) (drop (8 * k) p)) v ≡ write_daqs layout (elements_in order (n - (k + 1)) (drop (8 * (k + 1)) p)) (write_daq_after e.size e.address v)
turn layout order n k p e v h is good =
    let es : List DaqElement = elements_in order (n - (k + 1)) (drop (8 * (k + 1)) p) in
    ap (λ (xs : List DaqElement). write_daqs layout xs v) (elements_more order n k p h)
    ∙ ap (λ (x : DaqElement). write_daqs layout (x ∷ es) v) (sym is)
    ∙ ap (λ (o : Option Code). unless o (write_daqs layout es (write_daq_after e.size e.address v))) good

-- and is refused as they are where it is
pub turn_refused : (layout : LayoutValue) (order : Order) (n k : ℕ) (p : List ℕ) (e : DaqElement) (v : DaqValue) (code : Code) → k < n → e ≡ element_in order (drop (8 * k) p) → write_daq_refusal layout e.offset e.size e.extension e.address v ≡ Some code → result_err (write_daqs layout (elements_in order (n - k) (drop (8 * k) p)) v) ≡ Some code
turn_refused layout order n k p e v code h is bad =
    let es : List DaqElement = elements_in order (n - (k + 1)) (drop (8 * (k + 1)) p) in
    ap (λ (xs : List DaqElement). result_err (write_daqs layout xs v)) (elements_more order n k p h)
    ∙ ap (λ (x : DaqElement). result_err (write_daqs layout (x ∷ es) v)) (sym is)
    ∙ ap (λ (o : Option Code). result_err (unless o (write_daqs layout es (write_daq_after e.size e.address v)))) bad

-- the refusals of those behind it are the same where the pointer alone has moved
pub turn_looked : (layout : LayoutValue) (order : Order) (n k : ℕ) (p : List ℕ) (e : DaqElement) (v : DaqValue) (next : Option Pointer) → k < n → e ≡ element_in order (drop (8 * k) p) → write_daq_refusal layout e.offset e.size e.extension e.address v ≡ None → next ≡ (write_daq_after e.size e.address v).pointer → result_err (write_daqs layout (elements_in order (n - (k + 1)) (drop (8 * (k + 1)) p)) (record v { pointer = next })) ≡ result_err (write_daqs layout (elements_in order (n - k) (drop (8 * k) p)) v)
turn_looked layout order n k p e v next h is good moved =
    let es : List DaqElement = elements_in order (n - (k + 1)) (drop (8 * (k + 1)) p) in
    let x : Element = record { size = e.size; address = e.address } in
    ap (λ (q : Option Pointer). result_err (write_daqs layout es (record v { pointer = q }))) moved
    ∙ sym (turns_alike layout es _ _ (written_kept v.pointer x v))
    ∙ sym (ap result_err (turn layout order n k p e v h is good))

-- nothing refused behind: no refusal before
unless_none : (o : Option Code) (r : Result DaqValue Code) → result_err (unless o r) ≡ None → o ≡ None
unless_none None r h = refl
unless_none (Some code) r h = cc

-- of WRITE_DAQs of which none is refused, the first isn't
pub turn_granted : (layout : LayoutValue) (order : Order) (n k : ℕ) (p : List ℕ) (e : DaqElement) (v : DaqValue) → k < n → e ≡ element_in order (drop (8 * k) p) → result_err (write_daqs layout (elements_in order (n - k) (drop (8 * k) p)) v) ≡ None → write_daq_refusal layout e.offset e.size e.extension e.address v ≡ None
turn_granted layout order n k p e v h is good =
    let es : List DaqElement = elements_in order (n - (k + 1)) (drop (8 * (k + 1)) p) in
    let first : result_err (write_daqs layout (e ∷ es) v) ≡ None =
    ap (λ (x : DaqElement). result_err (write_daqs layout (x ∷ es) v)) is
    ∙ sym (ap (λ (xs : List DaqElement). result_err (write_daqs layout xs v)) (elements_more order n k p h))
    ∙ good in
    unless_none (write_daq_refusal layout e.offset e.size e.extension e.address v) (write_daqs layout es (write_daq_after e.size e.address v)) first
