-- How long the tasks of a controller wait from one cycle to the next.
use Rattle.std.specs.Prelude.{ℕ, ◌*◌, ◌^◌, ◌%◌, Bool, List, [], ◌∷◌, ◌==◌, nat_lt, if◌then◌else◌, Option, Some, None, unwrap_or, option_map, length, slice_index_or as get_or}
use Rattle.xcp_memory.specs.Layout.{EventValue, LayoutValue, no_event}

-- The nanoseconds of a time unit: units 0 to 9 are the powers of ten from 1 ns to 1 s. Another one is no whole number of nanoseconds.
-- (ASAM MCD-1 XCP, protocol layer, description of commands: GET_DAQ_EVENT_INFO.)
abbrev pub unit_time : ℕ → Option ℕ
unit_time unit = if nat_lt 9 unit then None else Some (10 ^ unit)

-- the nanoseconds that an event channel's time cycle and time unit say; a channel of cycle 0 isn't cyclic
abbrev pub cycle_time : EventValue → Option ℕ
cycle_time e = if e.cycle == 0 then None else option_map (λ n. e.cycle * n) (unit_time e.unit)

-- the event channel that a task raises: that of its number, modulo the number of channels
abbrev pub channel_of : LayoutValue → ℕ → EventValue
channel_of l task = get_or l.events (task % length l.events) no_event

-- The nanoseconds from one cycle of a task to its next, 0 where they follow at once: at a pace those of its channel, where that says any,
-- else the period, which is in milliseconds.
abbrev pub period_of : LayoutValue → Bool → ℕ → ℕ → ℕ
period_of l pace period task = if pace then unwrap_or (cycle_time (channel_of l task)) (period * 1000000) else period * 1000000

-- those of the tasks 0 to 5
abbrev pub periods_of : LayoutValue → Bool → ℕ → List ℕ
periods_of l pace period =
    let of : ℕ → ℕ = period_of l pace period in
    of 0 ∷ of 1 ∷ of 2 ∷ of 3 ∷ of 4 ∷ of 5 ∷ []
