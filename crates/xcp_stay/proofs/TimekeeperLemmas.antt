-- The caller that tells the time, among those that were dealt out, and behind those that are left.
use Rattle.std.proofs.Common.{◌≡◌, ◌∙◌, ◌+◌, ◌<◌, ◌≤◌, ℕ, zero, suc, Bool, true, false, List, [], ◌∷◌, ◌++◌, length, length-append, Option, Some, None, refl, sym, ap, subst, arith}
use Rattle.std.specs.Prelude.{IfSome, is_some, nat_lt, option_to_list, if◌then◌else◌}
use Rattle.std.specs.List.{AllByRecursion}
use Rattle.xcp_packet.specs.TimeStamps.{stamp_size}
use Rattle.xcp_memory.specs.Layout.{LayoutValue}
use Rattle.xcp_memory.specs.declared.Clock.{Clock}
use Rattle.xcp_locked.specs.Caller.{CallerValue, callers_of, fresh_caller}
use Rattle.xcp_service.specs.Parcels.{AreNumbered}
use Rattle.xcp_service.specs.Telling.{has_clock}
use Rattle.xcp_service.proofs.ParcelLemmas.{numbered_callers}
use Rattle.xcp_stay.specs.Team.{HaveAllServed, HaveServed, ToldTimes, timekeepers}
use Rattle.xcp_stay.proofs.NumberLemmas.{count_served, numbered_served}

-- ---- among all

numbered_behind : (k : ℕ) (cs ds : List CallerValue) → AreNumbered k (cs ++ ds) → AreNumbered (k + length cs) ds
numbered_behind k [] ds h = subst (λ (n : ℕ). AreNumbered n ds) (omega arith) h
numbered_behind k (c ∷ cs) ds h = subst (λ (n : ℕ). AreNumbered n ds) (omega arith) (numbered_behind (k + 1) cs ds h.1)

-- one at most, which stands before the others that are numbered from here on, is the last one, where it stands one before the last number
last_of : (k last : ℕ) (cs ds : List CallerValue) → AreNumbered k (cs ++ ds) → length cs ≤ 1 → (0 < length cs → k + 1 ≡ last) → AllByRecursion (λ (c : CallerValue). c.number + 1 ≡ last) cs
last_of k last [] ds h few at = tt
last_of k last (c ∷ []) ds h few at = (let here = h.0 in let end = at (omega arith) in omega (arith, here, end), tt)
last_of k last (c ∷ d ∷ cs) ds h few at = absurd (omega (arith, few))

-- that of so many callers that stands behind the first of them
pub last_dealt : (layout : LayoutValue) (callers tools tasks : ℕ) (one two three four spare : List CallerValue) → callers_of layout callers ≡ one ++ (two ++ (three ++ (four ++ spare))) → length one ≡ tools → length two ≡ tasks → length three ≡ tools → length four ≤ 1
    → (0 < length four → tools + tools + tasks + 1 ≡ callers) → AllByRecursion (λ (c : CallerValue). c.number + 1 ≡ callers) four
last_dealt layout callers tools tasks one two three four spare dealt ones twos threes few at =
    let all = subst (λ (l : List CallerValue). AreNumbered 0 l) dealt (numbered_callers layout callers) in
    let behind = numbered_behind _ three (four ++ spare) (numbered_behind _ two (three ++ (four ++ spare)) (numbered_behind 0 one (two ++ (three ++ (four ++ spare))) all)) in
    last_of _ callers four spare behind few (λ some. let end = at some in omega (arith, end, ones, twos, threes))

-- ---- whether there is one

-- the size of the clock's stamps tells it
pub tells_clock : (layout : LayoutValue) (clock : Clock) (size : ℕ) → size ≡ stamp_size clock.stamp → clock ≡ layout.clock → nat_lt 0 size ≡ has_clock layout
tells_clock layout clock size is same = ap (λ n. nat_lt 0 n) is ∙ ap (λ (k : Clock). nat_lt 0 (stamp_size k.stamp)) same

-- ---- before the first call

abbrev AreFresh : List CallerValue → Type 0
AreFresh cs = AllByRecursion (λ (c : CallerValue). c.receipts ≡ []) cs

fresh_more : (cs : List CallerValue) (c : CallerValue) → AreFresh cs → c.receipts ≡ [] → AreFresh (cs ++ c ∷ [])
fresh_more [] c h e = (e, tt)
fresh_more (d ∷ cs) c h e = (h.0, fresh_more cs c h.1 e)

fresh_callers : (layout : LayoutValue) (n : ℕ) → AreFresh (callers_of layout n)
fresh_callers layout zero = tt
fresh_callers layout (suc n) = fresh_more (callers_of layout n) (fresh_caller layout n) (fresh_callers layout n) refl

fresh_behind : (cs ds : List CallerValue) → AreFresh (cs ++ ds) → AreFresh ds
fresh_behind [] ds h = h
fresh_behind (c ∷ cs) ds h = fresh_behind cs ds h.1

fresh_front : (cs ds : List CallerValue) → AreFresh (cs ++ ds) → AreFresh cs
fresh_front [] ds h = tt
fresh_front (c ∷ cs) ds h = (h.0, fresh_front cs ds h.1)

-- it has no receipt yet
pub fresh_dealt : (layout : LayoutValue) (callers : ℕ) (one two three four spare : List CallerValue) → callers_of layout callers ≡ one ++ (two ++ (three ++ (four ++ spare))) → AllByRecursion (λ (c : CallerValue). c.receipts ≡ []) four
fresh_dealt layout callers one two three four spare dealt =
    let all = subst AreFresh dealt (fresh_callers layout callers) in
    fresh_front four spare (fresh_behind three (four ++ spare) (fresh_behind two (three ++ (four ++ spare)) (fresh_behind one (two ++ (three ++ (four ++ spare))) all)))

-- ---- behind those that are left

-- there is one where the layout has a clock
pub is_there : (tells : Bool) (n : ℕ) → n ≡ (if tells then 1 else 0) → nat_lt 0 n ≡ tells
is_there true n h = rw h refl
is_there false n h = rw h refl

-- there is one at most
pub few_there : (tells : Bool) (n : ℕ) → n ≡ (if tells then 1 else 0) → n ≤ 1
few_there true n h = omega (arith, h)
few_there false n h = omega (arith, h)

-- and where there is one, the layout has a clock
pub tells_where : (tells : Bool) (n : ℕ) → n ≡ (if tells then 1 else 0) → 0 < n → tells ≡ true
tells_where true n h some = refl
tells_where false n h some = absurd (omega (arith, h, some))

count_told : (o : Option CallerValue) (tells : Bool) → is_some o ≡ tells → length (option_to_list o) ≡ (if tells then 1 else 0)
count_told None false h = refl
count_told None true h = cc
count_told (Some c) false h = cc
count_told (Some c) true h = refl

all_told : (callers : ℕ) (o : Option CallerValue) → IfSome o (ToldTimes callers) → AllByRecursion (ToldTimes callers) (option_to_list o)
all_told callers None h = tt
all_told callers (Some c) h = (h, tt)

-- all that are left served, and told times
pub have_all_served : (layout : LayoutValue) (callers tools tasks : ℕ) (former team : List CallerValue) (o : Option CallerValue) → former ≡ team ++ option_to_list o → HaveServed layout callers tools tasks team → is_some o ≡ has_clock layout → IfSome o (ToldTimes callers) → HaveAllServed layout callers tools tasks former
have_all_served layout callers tools tasks former team o gathered served there told = record {
  team = team;
  told = option_to_list o;
  gathered = gathered;
  served = served;
  counted = count_told o (has_clock layout) there;
  times = all_told callers o told;
}

numbered_and : (k : ℕ) (cs : List CallerValue) (o : Option CallerValue) (last : ℕ) → AreNumbered k cs → IfSome o (ToldTimes last) → (is_some o ≡ true → k + length cs + 1 ≡ last) → AreNumbered k (cs ++ option_to_list o)
numbered_and k [] None last h told at = tt
numbered_and k [] (Some c) last h told at = (let here = told.0 in let end = at refl in omega (arith, here, end), tt)
numbered_and k (c ∷ cs) o last h told at = (h.0, numbered_and (k + 1) cs o last h.1 told (λ some. let end = at some in omega (arith, end)))

-- they are numbered in order
pub numbered_all : (layout : LayoutValue) (callers tools tasks : ℕ) (team : List CallerValue) (o : Option CallerValue) → HaveServed layout callers tools tasks team → is_some o ≡ has_clock layout → IfSome o (ToldTimes callers) → (has_clock layout ≡ true → tools + tools + tasks + 1 ≡ callers) → AreNumbered 0 (team ++ option_to_list o)
numbered_all layout callers tools tasks team o served there told at =
    let many = count_served layout callers tools tasks team served in
    numbered_and 0 team o callers (numbered_served layout callers tools tasks team served) told (λ some. let end = at (sym there ∙ some) in omega (arith, many, end))

-- and as many as there were callers for
pub count_all : (layout : LayoutValue) (callers tools tasks : ℕ) (former : List CallerValue) → HaveAllServed layout callers tools tasks former → length former ≡ tools + tools + tasks + timekeepers layout
count_all layout callers tools tasks former h =
    let both = length-append h.team h.told in
    let team = count_served layout callers tools tasks h.team h.served in
    let told = h.counted in
    let all = ap length h.gathered in
    omega (arith, both, team, told, all)

-- the same of the same layout, number of callers and members
pub all_served_as : (layout layout' : LayoutValue) (callers callers' tools tasks : ℕ) (former former' : List CallerValue) → layout ≡ layout' → callers ≡ callers' → former ≡ former' → HaveAllServed layout callers tools tasks former → HaveAllServed layout' callers' tools tasks former'
all_served_as layout layout' callers callers' tools tasks former former' one two three h =
    subst (λ x. HaveAllServed x callers' tools tasks former') one (subst (λ x. HaveAllServed layout x tools tasks former') two (subst (λ x. HaveAllServed layout callers tools tasks x) three h))
