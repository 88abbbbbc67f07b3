-- The allocating commands: when each is refused, and what it does.
-- (ASAM MCD-1 XCP, protocol layer, description of commands: FREE_DAQ, ALLOC_DAQ, ALLOC_ODT, ALLOC_ODT_ENTRY.)
use Rattle.std.specs.Prelude.{ℕ, ◌+◌, ◌==◌, not, nat_lt, [], ◌∷◌, ◌++◌, length, replicate, Option, Some, None}
use Rattle.xcp_packet.specs.declared.Code.{Code}
use Rattle.xcp_packet.specs.declared.Code.TheVariants.{Sequence, OutOfRange, DaqActive, MemoryOverflow}
use Rattle.xcp_packet.specs.Rows.{first_holding}
use Rattle.xcp_memory.specs.ClassLimits.{limits_of}
use Rattle.xcp_daq.specs.declared.allocation.Allocation.TheVariants.{FreeDaq, AllocDaq, AllocOdt, AllocOdtEntry}
use Rattle.xcp_daq.specs.DaqLists.{DaqValue, no_list, list_at, odt_at, lacks_list, lacks_odt, any_running, all_odts, all_entries, with_list, with_odt}
use Rattle.xcp_daq.specs.AllocationSequence.{may_follow}

-- FREE_DAQ leaves no list and no pointer
abbrev pub free_daq_after : DaqValue → DaqValue
free_daq_after v = record { class = v.class; lists = []; pointer = None; last = Some FreeDaq }

-- when ALLOC_DAQ is refused: there are no more lists than the class has
abbrev pub alloc_daq_refusal : ℕ → DaqValue → Option Code
alloc_daq_refusal count v =
    first_holding (
    (not (may_follow v.last AllocDaq), Sequence)
    ∷ (any_running v, DaqActive)
    ∷ (count == 0, OutOfRange)
    ∷ (nat_lt (limits_of v.class).lists (length v.lists + count), MemoryOverflow)
    ∷ [])

-- new lists come behind those that stand
abbrev pub alloc_daq_after : ℕ → DaqValue → DaqValue
alloc_daq_after count v = record v { lists = v.lists ++ replicate count no_list; last = Some AllocDaq }

-- when ALLOC_ODT is refused: there are no more ODTs than the class has, in all lists
abbrev pub alloc_odt_refusal : ℕ → ℕ → DaqValue → Option Code
alloc_odt_refusal list count v =
    first_holding (
    (not (may_follow v.last AllocOdt), Sequence)
    ∷ (lacks_list v list, OutOfRange)
    ∷ (any_running v, DaqActive)
    ∷ (count == 0, OutOfRange)
    ∷ (nat_lt (limits_of v.class).odts (length (all_odts v.lists) + count), MemoryOverflow)
    ∷ [])

-- new ODTs, with no entry, come behind those of the list
abbrev pub alloc_odt_after : ℕ → ℕ → DaqValue → DaqValue
alloc_odt_after list count v =
    record (with_list v list (record (list_at v list) { odts = (list_at v list).odts ++ replicate count [] })) { last = Some AllocOdt }

-- when ALLOC_ODT_ENTRY is refused: there are no more entries than the class has, in all ODTs
abbrev pub alloc_odt_entry_refusal : ℕ → ℕ → ℕ → DaqValue → Option Code
alloc_odt_entry_refusal list odt count v =
    first_holding (
    (not (may_follow v.last AllocOdtEntry), Sequence)
    ∷ (lacks_list v list, OutOfRange)
    ∷ (lacks_odt v list odt, OutOfRange)
    ∷ ((list_at v list).running, DaqActive)
    ∷ (count == 0, OutOfRange)
    ∷ (nat_lt (limits_of v.class).entries (length (all_entries v.lists) + count), MemoryOverflow)
    ∷ [])

-- new entries, unwritten, come behind those of the ODT
abbrev pub alloc_odt_entry_after : ℕ → ℕ → ℕ → DaqValue → DaqValue
alloc_odt_entry_after list odt count v =
    record (with_odt v list odt (odt_at v list odt ++ replicate count None)) { last = Some AllocOdtEntry }
