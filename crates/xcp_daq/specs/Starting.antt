-- The commands that start, stop and select lists.
-- (ASAM MCD-1 XCP, protocol layer, description of commands: START_STOP_DAQ_LIST, START_STOP_SYNCH.)
use Rattle.std.specs.Prelude.{ℕ, ◌==◌, not, ◌&&◌, nat_lt, true, false, [], ◌∷◌, map, Option, if◌then◌else◌}
use Rattle.std.specs.List.{list_any}
use Rattle.xcp_packet.specs.declared.Code.{Code}
use Rattle.xcp_packet.specs.declared.Code.TheVariants.{OutOfRange, DaqConfig, ModeNotValid}
use Rattle.xcp_memory.specs.Layout.{LayoutValue}
use Rattle.xcp_packet.specs.Rows.{first_holding}
use Rattle.xcp_daq.specs.DaqLists.{DaqValue, DaqList, list_at, lacks_list, has_large_odt, with_list}

-- a list that is stopped; its selection stays
abbrev pub stopped : DaqList → DaqList
stopped l = record l { running = false; since = 0 }

-- a list that is started: its count of events begins anew, also if it runs; its selection stays
abbrev pub started : DaqList → DaqList
started l = record l { running = true; since = 0 }

-- a list that is selected
abbrev pub selected : DaqList → DaqList
selected l = record l { selected = true }

-- when START_STOP_DAQ_LIST is refused: a stop (mode 0) doesn't look at the ODTs
abbrev pub start_stop_daq_list_refusal : LayoutValue → ℕ → ℕ → DaqValue → Option Code
start_stop_daq_list_refusal layout mode list v =
    first_holding (
    (nat_lt 2 mode, ModeNotValid)
    ∷ (lacks_list v list, OutOfRange)
    ∷ (not (mode == 0) && has_large_odt layout (list_at v list), DaqConfig)
    ∷ [])

-- mode 0 stops a list, 1 starts it, 2 selects it
abbrev pub switched : ℕ → DaqList → DaqList
switched mode l = if mode == 0 then stopped l else (if mode == 1 then started l else selected l)

-- what START_STOP_DAQ_LIST does
abbrev pub start_stop_daq_list_after : ℕ → ℕ → DaqValue → DaqValue
start_stop_daq_list_after mode list v = with_list v list (switched mode (list_at v list))

-- when START_STOP_SYNCH is refused: a start (mode 1) looks at the ODTs of the selected lists
abbrev pub start_stop_synch_refusal : LayoutValue → ℕ → DaqValue → Option Code
start_stop_synch_refusal layout mode v =
    first_holding (
    (nat_lt 2 mode, ModeNotValid)
    ∷ ((mode == 1) && list_any (λ l. l.selected && has_large_odt layout l) v.lists, DaqConfig)
    ∷ [])

-- mode 0 stops all lists, 1 starts the selected ones, 2 stops the selected ones
abbrev pub synchronised : ℕ → DaqList → DaqList
synchronised mode l =
    if mode == 0 then stopped l else (if not l.selected then l else (if mode == 1 then started l else stopped l))

-- and then no list is selected, in all three modes
abbrev pub start_stop_synch_after : ℕ → DaqValue → DaqValue
start_stop_synch_after mode v =
    record v { lists = map (λ l. record (synchronised mode l) { selected = false }) v.lists }
