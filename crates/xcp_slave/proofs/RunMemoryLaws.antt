-- What runs keep.
use Rattle.std.proofs.Common.{◌≡◌, ◌≢◌, ℕ, zero, suc, ◌+◌, ◌<◌, Bool, true, false, List, [], ◌∷◌, length, get_or, map, slice_set, Option, None, Result, Ok, Err, ap, sym, ◌∙◌, refl, subst, arith, inl, inr, nat_le, nat_lt, All, Some, ◌-◌, slice_index, ◌≤◌}
use Rattle.std.specs.Prelude.{◌==◌, not, ◌||◌, ◌&&◌, ◌⊎◌, if◌then◌else◌}
use Rattle.std.specs.Option.{option_or}
use Rattle.std.proofs.lemmas.Bool.Decides.{nat_tests}
use Rattle.std.proofs.lemmas.List.{get_or-set_other, get_or-map, length-replicate}
use Rattle.std.proofs.lemmas.List.Elements.{All-replicate}
use Rattle.arrayvec.specs.ArrayVec.{ArrayVec}
use Rattle.xcp_packet.specs.declared.Command.{Command}
use Rattle.xcp_packet.specs.declared.Command.TheVariants as commands
use Rattle.xcp_packet.specs.declared.Refuse.{Refuse}
use Rattle.xcp_packet.specs.declared.Refuse.TheVariants as refuses
use Rattle.xcp_packet.specs.declared.Reply.{Reply}
use Rattle.xcp_packet.specs.declared.Code.TheVariants.{OutOfRange, WriteProtected, SegmentNotValid, PageNotValid}
use Rattle.xcp_memory.specs.Layout.{LayoutValue, SegmentValue, IsLayout}
use Rattle.xcp_memory.specs.Signals.{takes_signals}
use Rattle.xcp_memory.specs.Pages.{PagesValue, SegmentPages, IsPages, segment_at, no_pages, no_segment, ecu_page, xcp_page, opening_segment}
use Rattle.xcp_memory.specs.Memory.{Writes, Tool, Stands}
use Rattle.xcp_memory.specs.PageSwitch.{segment_switched, is_of_all, lacks_page}
use Rattle.xcp_memory.specs.PageCopy.{copy_refusal, lacks_segment, content, with_content}
use Rattle.xcp_packet.specs.Rows.{Meets, first_holding}
use Rattle.xcp_slave.specs.declared.request.Request.{Request}
use Rattle.xcp_slave.specs.declared.request.Request.TheVariants as requests
use Rattle.xcp_slave.specs.Outcomes.{Answer}
use Rattle.xcp_slave.specs.declared.exchange.Exchange.{Exchange}
use Rattle.xcp_slave.specs.SlaveValue.{SlaveValue, layout_of, noblock, ended, opening}
use Rattle.xcp_slave.specs.Rows.{row}
use Rattle.xcp_slave.specs.Step.{Answers, Heeds, Drains, Samples, Fires, outbox_size, with_overload, with_signals, found_by, is_connect, at_time}
use Rattle.xcp_slave.specs.Run.{Run}
use Rattle.xcp_slave.specs.SlaveInvariant.{IsSlave, IsOfBytes}
use Rattle.xcp_slave.specs.MemoryEffects.{IsSteady, IsEventless, SameMemory, Write, Puts, WritesLeadTo, byte_of, last_at, IsLeft}
use Rattle.xcp_slave.proofs.StepLaws.{either, hands-part}
use Rattle.xcp_slave.proofs.ListInvariantLemmas.{none-holds, differs}
use Rattle.xcp_slave.proofs.TransferInvariantLemmas.{none-refused}
use Rattle.xcp_slave.proofs.SlaveInvariantLaws.{answers-kept, found-kept, opening-slave}
use Rattle.xcp_slave.proofs.PageLaws.{set-keeps}
use Rattle.xcp_slave.proofs.WriteLaws.{Touches, same-memory, row-touches, page-kept, eventless-touches, step-writes, writes-of, found-pages}

-- the first page of a segment
abbrev first : SegmentPages → List ℕ
first s = get_or s.pages 0 []

map-first : (mode page : ℕ) (xs : List SegmentPages) (i : ℕ) → get_or (get_or (map (segment_switched mode page) xs) i no_pages).pages 0 [] ≡ get_or (get_or xs i no_pages).pages 0 []
map-first mode page [] i = refl
map-first mode page (x ∷ xs) zero = refl
map-first mode page (x ∷ xs) (suc i) = map-first mode page xs i

switch-first : (all : Bool) (mode segment page : ℕ) (p : PagesValue) (i : ℕ) → get_or (get_or (if all then map (segment_switched mode page) p.segments else slice_set p.segments segment (segment_switched mode page (segment_at p segment))) i no_pages).pages 0 [] ≡ get_or (segment_at p i).pages 0 []
switch-first true mode segment page p i = map-first mode page p.segments i
switch-first false mode segment page p i = set-keeps first p.segments segment i (segment_switched mode page (segment_at p segment)) refl

row-reference : (c : Command) (v : SlaveValue) → IsSlave v → first_holding (row c v).refusals ≡ None → (i : ℕ) → get_or (segment_at (row c v).after.transfer.pages i).pages 0 [] ≡ get_or (segment_at v.transfer.pages i).pages 0 []
row-reference (commands.SetCalPage mode segment page) v h r i = switch-first (is_of_all mode) mode segment page v.transfer.pages i
row-reference (commands.CopyCalPage source source_page target target_page) v h r i =
    let p : PagesValue = v.transfer.pages in
    let a = none-holds ((lacks_segment source p, SegmentNotValid) ∷ (lacks_page source_page (segment_at p source), PageNotValid) ∷ (lacks_segment target p, SegmentNotValid) ∷ (lacks_page target_page (segment_at p target), PageNotValid) ∷ (target_page == 0, WriteProtected) ∷ (not (length (content p source source_page) == length (content p target target_page)), OutOfRange) ∷ []) (none-refused (copy_refusal source source_page target target_page p) r) in
    set-keeps first p.segments target i (with_content (segment_at p target) target_page (content p source source_page)) (get_or-set_other (segment_at p target).pages target_page 0 (content p source source_page) [] (λ e. differs target_page 0 a.1.1.1.1.0 (sym e)))
row-reference c v h r i = page-kept v.transfer.pages (row c v).after.transfer.pages i 0 h.transfer.pages (inl refl) (row-touches c v tt h.transfer r)

-- the reference pages of w are those of v
SameFirst : SlaveValue → SlaveValue → Type 0
SameFirst v w = (i : ℕ) → get_or (segment_at w.transfer.pages i).pages 0 [] ≡ get_or (segment_at v.transfer.pages i).pages 0 []

led-first : (v x w : SlaveValue) → w ≡ x → x.transfer.pages.segments ≡ v.transfer.pages.segments → SameFirst v w
unfolding SameFirst
led-first v x w e s i = ap (λ (y : SlaveValue). get_or (segment_at y.transfer.pages i).pages 0 []) e ∙ ap (λ (ss : List SegmentPages). get_or (get_or ss i no_pages).pages 0 []) s

meets-first : (c : Command) (v : SlaveValue) (x : Result (Option Reply) Reply) (w : SlaveValue) → IsSlave v → Meets (row c (found_by c v)) (noblock v) x w → SameFirst v w
unfolding SameFirst
meets-first c v (Ok o) w h m i =
    ap (λ (y : SlaveValue). get_or (segment_at y.transfer.pages i).pages 0 []) m.2
    ∙ row-reference c (found_by c v) (found-kept c v h) m.0 i
    ∙ ap (λ (p : PagesValue). get_or (segment_at p i).pages 0 []) (found-pages c v)
meets-first c v (Err e) w h m i = ap (λ (y : SlaveValue). get_or (segment_at y.transfer.pages i).pages 0 []) m.1

heeds-first : (v : SlaveValue) (d : Result Command Refuse) (a : Answer) (w : SlaveValue) → IsSlave v → Heeds v d a w → SameFirst v w
heeds-first v (Ok c) a w h k = either (v.connected || is_connect c) _ _ _ k (λ m. meets-first c v m.0 w h m.1) (λ m. led-first v v w m.1 refl)
heeds-first v (Err refuses.Empty) a w h k = led-first v v w k.1 refl
heeds-first v (Err refuses.Unknown) a w h k = either v.connected _ _ _ k (λ m. led-first v (noblock v) w m.1 refl) (λ m. led-first v v w m.1 refl)
heeds-first v (Err refuses.Short) a w h k = either v.connected _ _ _ k (λ m. led-first v (noblock v) w m.1 refl) (λ m. led-first v v w m.1 refl)

drains-segments : (o : List (ArrayVec ℕ)) (v : SlaveValue) (a : Answer) (w : SlaveValue) → Drains o v a w → w.transfer.pages.segments ≡ v.transfer.pages.segments
drains-segments [] v a w k = ap (λ (y : SlaveValue). y.transfer.pages.segments) k.1
drains-segments (p ∷ rest) v a w k = ap (λ (y : SlaveValue). y.transfer.pages.segments) k.1

samples-segments : (channel : ℕ) (packets : List (ArrayVec ℕ)) (v : SlaveValue) (a : Answer) (w : SlaveValue) → Samples channel packets v a w → w.transfer.pages.segments ≡ v.transfer.pages.segments
samples-segments channel packets v a w k = either (nat_le (length v.outbox + length (with_overload (outbox_size v) v.overloaded packets)) (outbox_size v)) _ _ _ k (λ o. ap (λ (y : SlaveValue). y.transfer.pages.segments) o.1) (λ o. ap (λ (y : SlaveValue). y.transfer.pages.segments) o.1)

fires-segments : (channel : ℕ) (signals : List ℕ) (v : SlaveValue) (a : Answer) (w : SlaveValue) → Fires channel signals v a w → w.transfer.pages.segments ≡ v.transfer.pages.segments
fires-segments channel signals v a w k =
    either (nat_lt channel (length (layout_of v).events)) _ _ _ k
    (λ m. either (takes_signals (layout_of v) (length signals)) _ _ _ m (samples-segments channel _ (with_signals signals v) a w) (λ n. ap (λ (y : SlaveValue). y.transfer.pages.segments) n.1))
    (λ m. ap (λ (y : SlaveValue). y.transfer.pages.segments) m.1)

first-step : (v : SlaveValue) (q : Request) (a : Answer) (w : SlaveValue) → q ≢ requests.FinishStore → IsSlave v → Answers v q a w → SameFirst v w
first-step v (requests.Command p) a w n h k = heeds-first v k.0 a w h k.2
first-step v (requests.Event channel signals) a w n h k = led-first v w w refl (fires-segments channel signals.items v a w k)
first-step v requests.Drain a w n h k = led-first v w w refl (drains-segments v.outbox v a w k)
first-step v requests.FinishStore a w n h k = absurd (n refl)
first-step v requests.Hangup a w n h k = led-first v (ended v) w k.1 refl
first-step v (requests.Time time) a w n h k = led-first v (at_time time v) w k.1 refl
first-step v (requests.Signals place bytes) a w n h k = led-first v w w refl (hands-part (λ x. x.transfer.pages.segments) place bytes.items v a w refl k)

-- no step but FinishStore changes a reference page
pub reference-step : (v : SlaveValue) (q : Request) (a : Answer) (w : SlaveValue) (i : ℕ) → q ≢ requests.FinishStore → IsSlave v → Answers v q a w → get_or (segment_at w.transfer.pages i).pages 0 [] ≡ get_or (segment_at v.transfer.pages i).pages 0 []
unfolding SameFirst
reference-step v q a w i n h k = first-step v q a w n h k i

reference-from : (v : SlaveValue) (xs : List Exchange) (w : SlaveValue) (i : ℕ) → IsSlave v → All (λ (x : Exchange). IsOfBytes x.request) xs → All (λ (x : Exchange). x.request ≢ requests.FinishStore) xs → Run v xs w → get_or (segment_at w.transfer.pages i).pages 0 [] ≡ get_or (segment_at v.transfer.pages i).pages 0 []
reference-from v [] w i h b n r = ap (λ (y : SlaveValue). get_or (segment_at y.transfer.pages i).pages 0 []) r
reference-from v (x ∷ xs) w i h b n r =
    let next = answers-kept v x.request x.answer r.0 (b zero x (omega arith)) h r.1 in
    reference-from r.0 xs w i next (λ k d below. b (suc k) d (omega arith)) (λ k d below. n (suc k) d (omega arith)) r.2
    ∙ reference-step v x.request x.answer r.0 i (n zero x (omega arith)) h r.1

-- page 0 of an opening
opening-first : (l : LayoutValue) (i : ℕ) → IsLayout l → i < length l.segments → get_or (opening_segment (get_or l.segments i no_segment)).pages 0 [] ≡ (get_or l.segments i no_segment).bytes
opening-first l i h below =
    let s : SegmentValue = get_or l.segments i no_segment in
    let some = (h.paged i no_segment below).0 in
    All-replicate (λ (p : List ℕ). p ≡ s.bytes) s.pages s.bytes refl 0 [] (omega (arith, length-replicate s.pages s.bytes))

-- without a store each reference page has the layout's bytes
pub reference-run : (l : LayoutValue) (xs : List Exchange) (w : SlaveValue) (i : ℕ) → IsLayout l → All (λ (x : Exchange). IsOfBytes x.request) xs → All (λ (x : Exchange). x.request ≢ requests.FinishStore) xs → Run (opening l) xs w → i < length l.segments → get_or (segment_at w.transfer.pages i).pages 0 [] ≡ (get_or l.segments i no_segment).bytes
reference-run l xs w i h b n r below =
    reference-from (opening l) xs w i (opening-slave l h) b n r
    ∙ ap (λ (s : SegmentPages). get_or s.pages 0 []) (get_or-map opening_segment l.segments i no_segment no_pages below)
    ∙ opening-first l i h below

-- a page that the tool doesn't have

record KeepsPage (p q : PagesValue) (i k : ℕ) : Type 0 where
  page : get_or (segment_at q i).pages k [] ≡ get_or (segment_at p i).pages k []
  ecu : (segment_at q i).ecu ≡ (segment_at p i).ecu
  xcp : (segment_at q i).xcp ≡ (segment_at p i).xcp

page-touched : (p q : PagesValue) (i k : ℕ) → IsLayout p.layout → IsPages p → k ≢ (segment_at p i).xcp → Touches p q → KeepsPage p q i k
page-touched p q i k l g apart (inl s) = record { page = page-kept p q i k g (inr apart) (inl s); ecu = s.ecu i; xcp = s.xcp i }
page-touched p q i k l g apart (inr x) =
    let numbers = (writes-of p q l g x).numbers i in
    record { page = page-kept p q i k g (inr apart) (inr x); ecu = numbers.ecu; xcp = numbers.xcp }

page-segments : (p q : PagesValue) (i k : ℕ) → q.segments ≡ p.segments → KeepsPage p q i k
page-segments p q i k e =
    let same : segment_at q i ≡ segment_at p i = ap (λ (ss : List SegmentPages). get_or ss i no_pages) e in
    record { page = ap (λ (s : SegmentPages). get_or s.pages k []) same; ecu = ap (λ (s : SegmentPages). s.ecu) same; xcp = ap (λ (s : SegmentPages). s.xcp) same }

page-step : (v : SlaveValue) (q : Request) (a : Answer) (w : SlaveValue) (i k : ℕ) → IsSteady q → IsSlave v → k ≢ (segment_at v.transfer.pages i).xcp → Answers v q a w → KeepsPage v.transfer.pages w.transfer.pages i k
page-step v (requests.Command p) a w i k s h apart r = page-touched v.transfer.pages w.transfer.pages i k h.transfer.layout h.transfer.pages apart (eventless-touches v (requests.Command p) a w s h r)
page-step v (requests.Event channel signals) a w i k s h apart r = page-segments v.transfer.pages w.transfer.pages i k (fires-segments channel signals.items v a w r)
page-step v requests.Drain a w i k s h apart r = page-segments v.transfer.pages w.transfer.pages i k (drains-segments v.outbox v a w r)
page-step v requests.FinishStore a w i k s h apart r = absurd s
page-step v requests.Hangup a w i k s h apart r = page-segments v.transfer.pages w.transfer.pages i k (ap (λ (y : SlaveValue). y.transfer.pages.segments) r.1)
page-step v (requests.Time time) a w i k s h apart r = page-segments v.transfer.pages w.transfer.pages i k (ap (λ (y : SlaveValue). y.transfer.pages.segments) r.1)
page-step v (requests.Signals place bytes) a w i k s h apart r = page-segments v.transfer.pages w.transfer.pages i k (hands-part (λ x. x.transfer.pages.segments) place bytes.items v a w refl r)

steady-run : (v : SlaveValue) (xs : List Exchange) (w : SlaveValue) (i k : ℕ) → IsSlave v → All (λ (x : Exchange). IsOfBytes x.request) xs → All (λ (x : Exchange). IsSteady x.request) xs → Run v xs w → k ≢ (segment_at v.transfer.pages i).xcp → KeepsPage v.transfer.pages w.transfer.pages i k
steady-run v [] w i k h b s r apart = page-segments v.transfer.pages w.transfer.pages i k (ap (λ (y : SlaveValue). y.transfer.pages.segments) r)
steady-run v (x ∷ xs) w i k h b s r apart =
    let one = page-step v x.request x.answer r.0 i k (s zero x (omega arith)) h apart r.1 in
    let next = answers-kept v x.request x.answer r.0 (b zero x (omega arith)) h r.1 in
    let still : k ≢ (segment_at r.0.transfer.pages i).xcp = λ e. apart (e ∙ one.xcp) in
    let rest = steady-run r.0 xs w i k next (λ k d below. b (suc k) d (omega arith)) (λ k d below. s (suc k) d (omega arith)) r.2 still in
    record { page = rest.page ∙ one.page; ecu = rest.ecu ∙ one.ecu; xcp = rest.xcp ∙ one.xcp }

-- a page that the tool doesn't have keeps its bytes through each run without a switch, a copy and a store
pub others-run : (v : SlaveValue) (xs : List Exchange) (w : SlaveValue) (i k : ℕ) → IsSlave v → All (λ (x : Exchange). IsOfBytes x.request) xs → All (λ (x : Exchange). IsSteady x.request) xs → Run v xs w → k ≢ (segment_at v.transfer.pages i).xcp → get_or (segment_at w.transfer.pages i).pages k [] ≡ get_or (segment_at v.transfer.pages i).pages k []
others-run v xs w i k h b s r apart = (steady-run v xs w i k h b s r apart).page

-- so does the page that the controller has, where the tool has another
pub ecu-run : (v : SlaveValue) (xs : List Exchange) (w : SlaveValue) (i : ℕ) → IsSlave v → All (λ (x : Exchange). IsOfBytes x.request) xs → All (λ (x : Exchange). IsSteady x.request) xs → Run v xs w → (segment_at v.transfer.pages i).ecu ≢ (segment_at v.transfer.pages i).xcp → ecu_page (segment_at w.transfer.pages i) ≡ ecu_page (segment_at v.transfer.pages i)
ecu-run v xs w i h b s r apart =
    let all = steady-run v xs w i (segment_at v.transfer.pages i).ecu h b s r apart in
    ap (λ (n : ℕ). get_or (segment_at w.transfer.pages i).pages n []) all.ecu ∙ all.page

-- the memory along runs

-- where q has the memory of p, and r that of q, r has that of p
pub same-trans : (p q r : PagesValue) → SameMemory p q → SameMemory q r → SameMemory p r
same-trans p q r h k = record { layout = k.layout ∙ h.layout; signals = k.signals ∙ h.signals; count = k.count ∙ h.count; pages = λ i. k.pages i ∙ h.pages i; ecu = λ i. k.ecu i ∙ h.ecu i; xcp = λ i. k.xcp i ∙ h.xcp i }

same-follows : (p q r : PagesValue) (ws : List Write) → SameMemory p q → WritesLeadTo q ws r → WritesLeadTo p ws r
same-follows p q r [] h k = same-trans p q r h k
same-follows p q r (x ∷ ws) h k = (k.0, k.1, same-trans p q k.0 h k.2, k.3, k.4)

-- without a switch, a copy, a store and an event, what a run leaves is its writes, one after another
pub run-puts : (v : SlaveValue) (xs : List Exchange) (w : SlaveValue) → IsSlave v → All (λ (x : Exchange). IsOfBytes x.request) xs → All (λ (x : Exchange). IsEventless x.request) xs → Run v xs w → (ws : List Write) × Puts v xs ws w × WritesLeadTo v.transfer.pages ws w.transfer.pages
run-puts v [] w h b s r = ([], (refl, r), subst (λ (y : SlaveValue). SameMemory v.transfer.pages y.transfer.pages) (sym r) (same-memory v.transfer.pages))
run-puts v (x ∷ xs) w h b s r =
    let next = answers-kept v x.request x.answer r.0 (b zero x (omega arith)) h r.1 in
    let rest = run-puts r.0 xs w next (λ k d below. b (suc k) d (omega arith)) (λ k d below. s (suc k) d (omega arith)) r.2 in
    elim (step-writes v x.request x.answer r.0 (s zero x (omega arith)) h r.1) [
      | inl same ↦ (rest.0, (r.0, r.1, inl (same, rest.1)), same-follows v.transfer.pages r.0.transfer.pages w.transfer.pages rest.0 same rest.2)
      | inr one ↦ (one.0 ∷ rest.0, (r.0, r.1, inr (one.0, rest.0, refl, one.1, rest.1)), (v.transfer.pages, r.0.transfer.pages, same-memory v.transfer.pages, one.1.writes, rest.2))
    ]

same-xcp : (p q : PagesValue) (i : ℕ) → SameMemory p q → xcp_page (segment_at q i) ≡ xcp_page (segment_at p i)
same-xcp p q i h = ap (λ (n : ℕ). get_or (segment_at q i).pages n []) (h.xcp i) ∙ ap (λ (ps : List (List ℕ)). get_or ps (segment_at p i).xcp []) (h.pages i)

-- where the memory is the same, the tool has the same byte at each address
pub same-tool : (p q : PagesValue) (b y : ℕ) → SameMemory p q → Tool p b y → Tool q b y
same-tool p q b y h (inl s) =
    let at : Stands (get_or q.layout.segments s.0 no_segment).address (xcp_page (segment_at q s.0)) b y =
    subst (λ (l : LayoutValue). Stands (get_or l.segments s.0 no_segment).address (xcp_page (segment_at q s.0)) b y) (sym h.layout)
    (subst (λ (bytes : List ℕ). Stands (get_or p.layout.segments s.0 no_segment).address bytes b y) (sym (same-xcp p q s.0 h)) s.1.stands) in
    inl (s.0, record { there = subst (λ (l : LayoutValue). s.0 < length l.segments) (sym h.layout) s.1.there; stands = at })
same-tool p q b y h (inr s) =
    inr (subst (λ (l : LayoutValue). Stands l.signals_address q.signals b y) (sym h.layout) (subst (λ (bytes : List ℕ). Stands p.layout.signals_address bytes b y) (sym h.signals) s))

back : (p q : PagesValue) → SameMemory p q → SameMemory q p
back p q h = record { layout = sym h.layout; signals = sym h.signals; count = sym h.count; pages = λ i. sym (h.pages i); ecu = λ i. sym (h.ecu i); xcp = λ i. sym (h.xcp i) }

-- the last byte that was written stands

same-left : (p q : PagesValue) (b : ℕ) → SameMemory p q → IsLeft None p q b
same-left p q b h = λ y. (same-tool p q b y h, same-tool q p b y (back p q h))

write-by : (p q : PagesValue) (x : Write) (b : ℕ) (c : Bool) → Writes p x.address x.bytes q → (nat_le x.address b && nat_lt b (x.address + length x.bytes)) ≡ c → IsLeft (if c then Some (slice_index x.bytes (b - x.address)) else None) p q b
write-by p q x b true w e =
    let from : x.address ≤ b = grind (arith, nat_tests, e) in
    let below : b < x.address + length x.bytes = grind (arith, nat_tests, e) in
    let at : x.address + (b - x.address) ≡ b = omega arith in
    subst (λ (n : ℕ). Tool q n (slice_index x.bytes (b - x.address))) at (w.each (b - x.address) (omega arith))
write-by p q x b false w e =
    let apart : (b < x.address) ⊎ (x.address + length x.bytes ≤ b) = grind (arith, nat_tests, e) in
    λ y. w.others b y apart

write-left : (p q : PagesValue) (x : Write) (b : ℕ) → Writes p x.address x.bytes q → IsLeft (byte_of x b) p q b
write-left p q x b w = write-by p q x b (nat_le x.address b && nat_lt b (x.address + length x.bytes)) w refl

both-left : (later sooner : Option ℕ) (p q r : PagesValue) (b : ℕ) → IsLeft sooner p q b → IsLeft later q r b → IsLeft (option_or later sooner) p r b
both-left (Some y) sooner p q r b h k = k
both-left None (Some y) p q r b h k = (k y).0 h
both-left None None p q r b h k = λ y. (λ t. (k y).0 ((h y).0 t), λ t. (h y).1 ((k y).1 t))

or-none : (o : Option ℕ) → option_or o None ≡ o
or-none (Some y) = refl
or-none None = refl

-- after writes the tool has at an address the last byte that they put there, or else what stood there before
pub last-stands : (p q : PagesValue) (ws : List Write) (b : ℕ) → WritesLeadTo p ws q → IsLeft (last_at ws b) p q b
last-stands p q [] b h = same-left p q b h
last-stands p q (x ∷ ws) b h =
    let one : IsLeft (byte_of x b) p h.1 b = subst (λ (o : Option ℕ). IsLeft o p h.1 b) (or-none (byte_of x b)) (both-left (byte_of x b) None p h.0 h.1 b (same-left p h.0 b h.2) (write-left h.0 h.1 x b h.3)) in
    both-left (last_at ws b) (byte_of x b) p h.1 q b one (last-stands h.1 q ws b h.4)
