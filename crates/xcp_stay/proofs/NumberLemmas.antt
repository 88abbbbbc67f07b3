-- Callers keep their numbers, whatever is done with them.
use Rattle.std.proofs.Common.{◌≡◌, ◌∙◌, ◌+◌, inl, inr, ℕ, List, [], ◌∷◌, ◌++◌, length, length-append, map, refl, sym, ap, ap₂, subst, append_assoc, arith}
use Rattle.std.specs.List.{AllZip}
use Rattle.std.proofs.lemmas.List.{map-append}
use Rattle.xcp_memory.specs.Layout.{LayoutValue}
use Rattle.xcp_locked.specs.Caller.{CallerValue, callers_of}
use Rattle.xcp_seats.specs.Seating.{Departs, Pair, SeatValue, Visits, pair}
use Rattle.xcp_seats.specs.declared.hall.Departure.{Departure}
use Rattle.xcp_seats.specs.declared.hall.Departure.TheVariants as departures
use Rattle.xcp_seats.specs.Ticking.{TaskAt, TaskValue, Ticked}
use Rattle.xcp_seats.specs.Trails.{Leads}
use Rattle.xcp_service.specs.Parcels.{AreNumbered}
use Rattle.xcp_service.proofs.ParcelLemmas.{numbered_callers}
use Rattle.xcp_stay.specs.Team.{HaveServed, SeatLeft, TaskLeft}

-- ---- one after another

-- a step keeps what each step keeps
leads_keep : {A B : Type 0} (Step : A → A → Type 0) (f : A → B) → ((a b : A) → Step a b → f b ≡ f a) → (a : A) (xs : List A) (b : A) → Leads Step a xs b → f b ≡ f a
leads_keep Step f keeps a [] b h = ap f (sym h)
leads_keep Step f keeps a (x ∷ xs) b h = leads_keep Step f keeps x xs b h.1 ∙ keeps a x h.0

departs_keep : (d : Departure) (old new : CallerValue) → Departs d old new → new.number ≡ old.number
departs_keep (departures.Others n) old new h = ap (λ (c : CallerValue). c.number) h.1
departs_keep (departures.Last result) old new h = h.same.number

visit_tool : (m : ℕ) (a b : Pair) → Visits m a b → b.tool.number ≡ a.tool.number
visit_tool m a b h = departs_keep h.departure h.mid.tool b.tool h.gone ∙ elim h.served [
  | inl same ↦ ap (λ (p : Pair). p.tool.number) same
  | inr attends ↦ attends.same_tool.number
]

visit_pump : (m : ℕ) (a b : Pair) → Visits m a b → b.pump.number ≡ a.pump.number
visit_pump m a b h = ap (λ (c : CallerValue). c.number) h.pump ∙ elim h.served [
  | inl same ↦ ap (λ (p : Pair). p.pump.number) same
  | inr attends ↦ attends.same_pump.number
]

-- ---- lists

abbrev numbers : List CallerValue → List ℕ
numbers cs = map (λ (c : CallerValue). c.number) cs

tools_keep : (seats : List SeatValue) (left : List Pair) → AllZip SeatLeft seats left → numbers (map (λ (p : Pair). p.tool) left) ≡ numbers (map (λ (s : SeatValue). s.tool) seats)
tools_keep [] [] h = refl
tools_keep [] (p ∷ left) h = absurd h
tools_keep (s ∷ seats) [] h = absurd h
tools_keep (s ∷ seats) (p ∷ left) h =
    ap₂ (λ (n : ℕ) (ns : List ℕ). n ∷ ns) (leads_keep (Visits s.max_cto) (λ (q : Pair). q.tool.number) (visit_tool s.max_cto) (pair s.tool s.pump) h.0.trail p h.0.leads) (tools_keep seats left h.1)

pumps_keep : (seats : List SeatValue) (left : List Pair) → AllZip SeatLeft seats left → numbers (map (λ (p : Pair). p.pump) left) ≡ numbers (map (λ (s : SeatValue). s.pump) seats)
pumps_keep [] [] h = refl
pumps_keep [] (p ∷ left) h = absurd h
pumps_keep (s ∷ seats) [] h = absurd h
pumps_keep (s ∷ seats) (p ∷ left) h =
    ap₂ (λ (n : ℕ) (ns : List ℕ). n ∷ ns) (leads_keep (Visits s.max_cto) (λ (q : Pair). q.pump.number) (visit_pump s.max_cto) (pair s.tool s.pump) h.0.trail p h.0.leads) (pumps_keep seats left h.1)

task_keeps : (layout : LayoutValue) (t : TaskValue) (c : CallerValue) → TaskLeft layout t c → c.number ≡ t.caller.number
task_keeps layout t c h =
    let ticks = h.1 in leads_keep (Ticked layout t.task) (λ (at : TaskAt). at.caller.number) (λ a b step. step.same.number) _ ticks.cycles.trail _ ticks.cycles.leads

tasks_keep : (layout : LayoutValue) (ts : List TaskValue) (cs : List CallerValue) → AllZip (TaskLeft layout) ts cs → numbers cs ≡ numbers (map (λ (t : TaskValue). t.caller) ts)
tasks_keep layout [] [] h = refl
tasks_keep layout [] (c ∷ cs) h = absurd h
tasks_keep layout (t ∷ ts) [] h = absurd h
tasks_keep layout (t ∷ ts) (c ∷ cs) h = ap₂ (λ (n : ℕ) (ns : List ℕ). n ∷ ns) (task_keeps layout t c h.0) (tasks_keep layout ts cs h.1)

-- callers with the same numbers are numbered where the others are
numbered_same : (k : ℕ) (cs ds : List CallerValue) → numbers cs ≡ numbers ds → AreNumbered k ds → AreNumbered k cs
numbered_same k [] ds same h = tt
numbered_same k (c ∷ cs) [] same h = absurd (some_there c.number (numbers cs) same)
  where
    some_there : (n : ℕ) (ns : List ℕ) → n ∷ ns ≡ [] → ⊥
    some_there n ns e = cc
numbered_same k (c ∷ cs) (d ∷ ds) same h = (first c.number d.number (numbers cs) (numbers ds) same ∙ h.0, numbered_same (k + 1) cs ds (rest c.number d.number (numbers cs) (numbers ds) same) h.1)
  where
    first : (n m : ℕ) (ns ms : List ℕ) → n ∷ ns ≡ m ∷ ms → n ≡ m
    first n m ns ms e = cc

    rest : (n m : ℕ) (ns ms : List ℕ) → n ∷ ns ≡ m ∷ ms → ns ≡ ms
    rest n m ns ms e = cc

numbered_front : (k : ℕ) (cs ds : List CallerValue) → AreNumbered k (cs ++ ds) → AreNumbered k cs
numbered_front k [] ds h = tt
numbered_front k (c ∷ cs) ds h = (h.0, numbered_front (k + 1) cs ds h.1)

-- ---- what is left of a team

-- the callers that are left have the numbers of those that were dealt out
same_numbers : (layout : LayoutValue) (callers tools tasks : ℕ) (former : List CallerValue) → (h : HaveServed layout callers tools tasks former) → numbers former ≡ numbers (h.for_tools ++ (h.for_tasks ++ h.for_pumps))
same_numbers layout callers tools tasks former h =
    let number = λ (c : CallerValue). c.number in
    ap numbers h.gathered
    ∙ (map-append number (map (λ (p : Pair). p.tool) h.left) (h.rested ++ map (λ (p : Pair). p.pump) h.left)
    ∙ (ap₂ (λ (a b : List ℕ). a ++ b) (tools_keep h.seats.seats h.left h.seats.sat ∙ ap numbers h.seats.tools_are)
    (map-append number h.rested (map (λ (p : Pair). p.pump) h.left)
    ∙ (ap₂ (λ (a b : List ℕ). a ++ b) (tasks_keep layout h.ticked.tickers h.rested h.ticked.ticked ∙ ap numbers h.ticked.callers_are) (pumps_keep h.seats.seats h.left h.seats.sat ∙ ap numbers h.seats.pumps_are)
    ∙ sym (map-append number h.for_tasks h.for_pumps)))
    ∙ sym (map-append number h.for_tools (h.for_tasks ++ h.for_pumps))))

-- so they are numbered in order
pub numbered_served : (layout : LayoutValue) (callers tools tasks : ℕ) (former : List CallerValue) → HaveServed layout callers tools tasks former → AreNumbered 0 former
numbered_served layout callers tools tasks former h =
    let dealt : callers_of layout callers ≡ (h.for_tools ++ (h.for_tasks ++ h.for_pumps)) ++ h.spare =
    h.dealt ∙ (ap (λ (l : List CallerValue). h.for_tools ++ l) (sym (append_assoc h.for_tasks h.for_pumps h.spare)) ∙ sym (append_assoc h.for_tools (h.for_tasks ++ h.for_pumps) h.spare)) in
    numbered_same 0 former (h.for_tools ++ (h.for_tasks ++ h.for_pumps)) (same_numbers layout callers tools tasks former h)
    (numbered_front 0 (h.for_tools ++ (h.for_tasks ++ h.for_pumps)) h.spare (subst (λ (l : List CallerValue). AreNumbered 0 l) dealt (numbered_callers layout callers)))

length-numbers : (cs : List CallerValue) → length (numbers cs) ≡ length cs
length-numbers [] = refl
length-numbers (c ∷ cs) = let rest = length-numbers cs in omega (arith, rest)

-- and as many as the seats and tasks have
pub count_served : (layout : LayoutValue) (callers tools tasks : ℕ) (former : List CallerValue) → HaveServed layout callers tools tasks former → length former ≡ tools + tools + tasks
count_served layout callers tools tasks former h =
    let same = ap length (same_numbers layout callers tools tasks former h) in
    let own = length-numbers former in
    let dealt = length-numbers (h.for_tools ++ (h.for_tasks ++ h.for_pumps)) in
    let outer = length-append h.for_tools (h.for_tasks ++ h.for_pumps) in
    let inner = length-append h.for_tasks h.for_pumps in
    let for_tools = h.counted.0 in
    let for_tasks = h.counted.1 in
    let for_pumps = h.counted.2 in
    omega (arith, same, own, dealt, outer, inner, for_tools, for_tasks, for_pumps)
