-- What the seats and tasks of a server that stayed did with the callers that they were dealt.
use Rattle.std.specs.Prelude.{◌≡◌, ◌+◌, ℕ, List, [], ◌∷◌, ◌++◌, All, length, map, if◌then◌else◌}
use Rattle.std.specs.List.{AllByRecursion, AllZip}
use Rattle.xcp_memory.specs.Layout.{LayoutValue}
use Rattle.xcp_locked.specs.Caller.{CallerValue, callers_of}
use Rattle.xcp_seats.specs.Seating.{Pair, Sat, SeatValue, pair}
use Rattle.xcp_seats.specs.Ticking.{TaskValue, Ticks}
use Rattle.xcp_service.specs.Telling.{IsTime, has_clock}

-- tasks are numbered from k on
abbrev pub TasksFrom : ℕ → List TaskValue → Type 0
TasksFrom k [] = Unit {0}
TasksFrom k (t ∷ ts) = (t.task ≡ k) × TasksFrom (k + 1) ts

-- seats are numbered from k on
abbrev pub SeatsFrom : ℕ → List SeatValue → Type 0
SeatsFrom k [] = Unit {0}
SeatsFrom k (s ∷ ss) = (s.number ≡ k) × SeatsFrom (k + 1) ss

-- what a seat did: all its visits, from its two callers as they were dealt to these as they are left
abbrev pub SeatLeft : SeatValue → Pair → Type 0
SeatLeft s p = Sat s.max_cto (pair s.tool s.pump) p

-- what a task did: all its cycles, from its caller and its reader as they were dealt to this caller as it is left, and some reader
abbrev pub TaskLeft : LayoutValue → TaskValue → CallerValue → Type 0
TaskLeft layout t caller = (reader : _) × Ticks layout t.task t.caller caller t.reader reader

-- Tasks with these callers, numbered from 0, did all their cycles, and these callers are left.
pub record TasksServed (layout : LayoutValue) (callers rested : List CallerValue) : Type 0 where
  pub tickers : List TaskValue
  pub numbered : TasksFrom 0 tickers
  pub callers_are : map (λ t. t.caller) tickers ≡ callers
  pub ticked : AllZip (TaskLeft layout) tickers rested

-- Seats with these callers, for their tools and for their pumps, did all their visits, with MAX_CTO m, and this is left.
pub record SeatsServed (m : ℕ) (tools pumps : List CallerValue) (left : List Pair) : Type 0 where
  pub seats : List SeatValue
  pub limit : All (λ s. s.max_cto ≡ m) seats
  pub tools_are : map (λ s. s.tool) seats ≡ tools
  pub pumps_are : map (λ s. s.pump) seats ≡ pumps
  pub sat : AllZip SeatLeft seats left

-- Of so many callers of a slave's opening the first were dealt to the tools of so many seats, the next to so many tasks, and the next to the
-- seats' pumps. With them the seats did all their visits and the tasks all their cycles, and these are left of them, in that order.
pub record HaveServed (layout : LayoutValue) (callers tools tasks : ℕ) (former : List CallerValue) : Type 0 where
  pub for_tools : List CallerValue
  pub for_tasks : List CallerValue
  pub for_pumps : List CallerValue
  pub spare : List CallerValue
  pub dealt : callers_of layout callers ≡ for_tools ++ (for_tasks ++ (for_pumps ++ spare))
  pub counted : (length for_tools ≡ tools) × (length for_tasks ≡ tasks) × (length for_pumps ≡ tools)
  pub left : List Pair
  pub rested : List CallerValue
  pub gathered : former ≡ map (λ p. p.tool) left ++ (rested ++ map (λ p. p.pump) left)
  pub seats : SeatsServed layout.max_cto for_tools for_pumps left
  pub ticked : TasksServed layout for_tasks rested

-- how many callers tell the time: one where the layout has a clock
abbrev pub timekeepers : LayoutValue → ℕ
timekeepers layout = if has_clock layout then 1 else 0

-- the last of so many callers, with all receipts that it ever had: they are of times alone
abbrev pub ToldTimes : ℕ → CallerValue → Type 0
ToldTimes callers c = (c.number + 1 ≡ callers) × AllByRecursion IsTime c.receipts

-- The callers of seats and tasks served so, and behind them stands the one that told the time, where the layout has a clock.
pub record HaveAllServed (layout : LayoutValue) (callers tools tasks : ℕ) (former : List CallerValue) : Type 0 where
  pub team : List CallerValue
  pub told : List CallerValue
  pub gathered : former ≡ team ++ told
  pub served : HaveServed layout callers tools tasks team
  pub counted : length told ≡ timekeepers layout
  pub times : AllByRecursion (ToldTimes callers) told
