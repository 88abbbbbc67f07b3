-- Times that are told a slave that stays.
-- (ASAM MCD-1 XCP, protocol layer, description of commands: GET_DAQ_RESOLUTION_INFO, TIMESTAMP_MODE and TIMESTAMP_TICKS.)
use Rattle.std.specs.Prelude.{◌≡◌, ◌⊎◌, ◌+◌, ◌-◌, ◌*◌, ◌/◌, ◌^◌, ℕ, Bool, min, max, nat_lt, if◌then◌else◌}
use Rattle.xcp_packet.specs.TimeStamps.{stamp_size}
use Rattle.xcp_memory.specs.Layout.{LayoutValue}
use Rattle.xcp_memory.specs.declared.Clock.{Clock}
use Rattle.xcp_slave.specs.Outcomes.{Answer}
use Rattle.xcp_slave.specs.declared.Request.TheVariants as requests
use Rattle.xcp_locked.specs.declared.receipt.Receipt.{Receipt}
use Rattle.xcp_service.specs.Calls.{Calls, ExecutesNothing}
use Rattle.xcp_service.specs.Residents.{ResidentValue}

-- whether time stamps have a byte
abbrev pub has_clock : LayoutValue → Bool
has_clock layout = nat_lt 0 (stamp_size layout.clock.stamp)

-- How many picoseconds a unit of time has, by its code: 0 is a nanosecond, and each next one is ten times as long, up to 9, a second; 10, 11
-- and 12 are 1, 10 and 100 picoseconds.
abbrev pub unit_picos : ℕ → ℕ
unit_picos unit = if nat_lt unit 10 then 10 ^ (3 + unit) else 10 ^ (unit - 10)

-- how long a tick is, in picoseconds
abbrev pub tick_picos : Clock → ℕ
tick_picos clock = unit_picos clock.unit * max clock.ticks 1

-- the time of a clock so many nanoseconds behind its beginning: how many whole ticks there were, 2^64 - 1 at most
abbrev pub ticks_in : Clock → ℕ → ℕ
ticks_in clock nanos = min (1000 * nanos / tick_picos clock) (2 ^ 64 - 1)

-- a receipt of a time that was told
abbrev pub IsTime : Receipt → Type 0
IsTime r = (time : ℕ) × (r.request ≡ requests.Time time)

-- Nothing was executed, or the last of so many callers told the slave a time: this one call was executed, and nothing else.
abbrev pub TellsTime : ℕ → ResidentValue → ResidentValue → Type 0
TellsTime callers old new =
    ExecutesNothing old new
    ⊎ ((number : ℕ) × (time : ℕ) × (answer : Answer) × (number + 1 ≡ callers) × Calls number (requests.Time time) answer old new)
