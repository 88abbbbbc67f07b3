-- The commands that write and read what a list samples, and when.
-- (ASAM MCD-1 XCP, protocol layer, description of commands: CLEAR_DAQ_LIST, SET_DAQ_PTR, WRITE_DAQ,
-- WRITE_DAQ_MULTIPLE, READ_DAQ, SET_DAQ_LIST_MODE.)
use Rattle.std.specs.Prelude.{ℕ, zero, suc, ◌+◌, ◌*◌, ◌==◌, not, ◌&&◌, ◌||◌, nat_le, nat_lt, Bool, true, false, List, [], ◌∷◌, ◌++◌, length, drop, map, Option, Some, None, Result, Ok, Err, if◌then◌else◌, slice_index_or as get_or, slice_set}
use Rattle.xcp_packet.specs.ByteOrder.{byte_at, double_at}
use Rattle.xcp_packet.specs.declared.Order.{Order}
use Rattle.xcp_packet.specs.declared.Code.{Code}
use Rattle.xcp_packet.specs.declared.Code.TheVariants.{CmdSyntax, OutOfRange, DaqActive, DaqConfig, AccessDenied, ModeNotValid}
use Rattle.xcp_packet.specs.declared.Stamp.{Stamp}
use Rattle.xcp_packet.specs.declared.Stamp.TheVariants.{Without}
use Rattle.xcp_memory.specs.Layout.{LayoutValue}
use Rattle.xcp_memory.specs.ComputedAccess.{lies_inside}
use Rattle.xcp_packet.specs.Rows.{first_holding}
use Rattle.xcp_daq.specs.declared.daq_element.DaqElement.{DaqElement}
use Rattle.xcp_daq.specs.declared.element.Element.{Element}
use Rattle.xcp_daq.specs.declared.pointer.Pointer.{Pointer}
use Rattle.xcp_daq.specs.DaqLists.{DaqValue, DaqList, list_at, odt_at, lacks_list, lacks_odt, lacks_entry, greatest_size, has_stamp, with_list, with_odt}

-- when CLEAR_DAQ_LIST is refused
abbrev pub clear_daq_list_refusal : ℕ → DaqValue → Option Code
clear_daq_list_refusal list v = first_holding ((lacks_list v list, OutOfRange) ∷ [])

-- a list that is stopped, unselected, and whose entries are unwritten
abbrev pub cleared : DaqList → DaqList
cleared l = record l { running = false; selected = false; since = 0; odts = map (map (λ entry. None)) l.odts }

-- the event channel, prescaler and priority of the list, and the pointer, stay
abbrev pub clear_daq_list_after : ℕ → DaqValue → DaqValue
clear_daq_list_after list v = with_list v list (cleared (list_at v list))

-- when SET_DAQ_PTR is refused
abbrev pub set_daq_ptr_refusal : ℕ → ℕ → ℕ → DaqValue → Option Code
set_daq_ptr_refusal list odt entry v =
    first_holding (
    (lacks_list v list, OutOfRange)
    ∷ (lacks_odt v list odt, OutOfRange)
    ∷ (lacks_entry v list odt entry, OutOfRange)
    ∷ [])

-- the pointer is set
abbrev pub set_daq_ptr_after : ℕ → ℕ → ℕ → DaqValue → DaqValue
set_daq_ptr_after list odt entry v = record v { pointer = Some (record { list = list; odt = odt; entry = entry }) }

-- the pointer on the next entry of its ODT; behind the last there is none
abbrev pub moved_on : DaqValue → Pointer → Option Pointer
moved_on v p = if nat_lt (p.entry + 1) (length (odt_at v p.list p.odt)) then Some (record p { entry = p.entry + 1 }) else None

-- whether there is no pointer
abbrev pub has_no_pointer : Option Pointer → Bool
has_no_pointer None = true
has_no_pointer (Some p) = false

-- whether the list that the pointer names runs
abbrev pub pointed_list_runs : Option Pointer → DaqValue → Bool
pointed_list_runs None v = false
pointed_list_runs (Some p) v = (list_at v p.list).running

-- what WRITE_DAQ asks of an element, in order: no bit of it, a size that fits, address extension 0, one area
abbrev pub element_rows : LayoutValue → ℕ → ℕ → ℕ → ℕ → List (Bool × Code)
element_rows layout offset size extension address =
    (not (offset == 0xFF), OutOfRange)
    ∷ (not (nat_le 1 size && nat_le size (greatest_size layout)), OutOfRange)
    ∷ (not (extension == 0), OutOfRange)
    ∷ (not (lies_inside layout address size), AccessDenied)
    ∷ []

-- when WRITE_DAQ is refused: the pointer is looked at first, and then the element
abbrev pub write_daq_refusal : LayoutValue → ℕ → ℕ → ℕ → ℕ → DaqValue → Option Code
write_daq_refusal layout offset size extension address v =
    first_holding (
    (has_no_pointer v.pointer, DaqConfig)
    ∷ (pointed_list_runs v.pointer v, DaqActive)
    ∷ element_rows layout offset size extension address)

-- the entry at the pointer is written, and the pointer moves on
abbrev pub entry_written : Option Pointer → Element → DaqValue → DaqValue
entry_written None e v = v
entry_written (Some p) e v =
    record (with_odt v p.list p.odt (slice_set (odt_at v p.list p.odt) p.entry (Some e))) { pointer = moved_on v p }

-- what WRITE_DAQ does
abbrev pub write_daq_after : ℕ → ℕ → DaqValue → DaqValue
write_daq_after size address v = entry_written v.pointer (record { size = size; address = address }) v

-- a DAQ element in eight bytes: BIT_OFFSET, size, address, address extension, and a dummy byte
abbrev pub element_in : Order → List ℕ → DaqElement
element_in order p = record { offset = byte_at 0 p; size = byte_at 1 p; address = double_at order 2 p; extension = byte_at 6 p }

-- so many DAQ elements, one behind the other
abbrev pub elements_in : Order → ℕ → List ℕ → List DaqElement
elements_in order zero p = []
elements_in order (suc n) p = element_in order p ∷ elements_in order n (drop 8 p)

-- what WRITE_DAQ_MULTIPLE asks of its bytes: the number of DAQ elements, all of them, and that there is one
abbrev pub multiple_rows : List ℕ → List (Bool × Code)
multiple_rows bytes =
    (length bytes == 0, CmdSyntax)
    ∷ (nat_lt (length bytes) (1 + 8 * byte_at 0 bytes), CmdSyntax)
    ∷ (byte_at 0 bytes == 0, OutOfRange)
    ∷ []

-- a refusal, and what comes where there is none
abbrev pub unless : Option Code → Result DaqValue Code → Result DaqValue Code
unless None next = next
unless (Some code) next = Err code

-- WRITE_DAQs in turn: the value behind the last one, or the first refusal of one, at the value that those before it leave
abbrev pub write_daqs : LayoutValue → List DaqElement → DaqValue → Result DaqValue Code
write_daqs layout [] v = Ok v
write_daqs layout (e ∷ es) v =
    unless (write_daq_refusal layout e.offset e.size e.extension e.address v) (write_daqs layout es (write_daq_after e.size e.address v))

-- the WRITE_DAQs of WRITE_DAQ_MULTIPLE
abbrev pub multiple : LayoutValue → List ℕ → DaqValue → Result DaqValue Code
multiple layout bytes v = write_daqs layout (elements_in layout.order (byte_at 0 bytes) (drop 1 bytes)) v

-- the refusal, where there is one
abbrev pub refused_in : Result DaqValue Code → List (Bool × Code)
refused_in (Ok w) = []
refused_in (Err code) = (true, code) ∷ []

-- when WRITE_DAQ_MULTIPLE is refused: its bytes are looked at first, and then the WRITE_DAQs in turn
abbrev pub write_daq_multiple_refusal : LayoutValue → List ℕ → DaqValue → Option Code
write_daq_multiple_refusal layout bytes v = first_holding (multiple_rows bytes ++ refused_in (multiple layout bytes v))

-- all of them or none
abbrev pub all_or_none : DaqValue → Result DaqValue Code → DaqValue
all_or_none v (Ok w) = w
all_or_none v (Err code) = v

-- what WRITE_DAQ_MULTIPLE does
abbrev pub write_daq_multiple_after : LayoutValue → List ℕ → DaqValue → DaqValue
write_daq_multiple_after layout bytes v = all_or_none v (multiple layout bytes v)

-- when READ_DAQ is refused
abbrev pub read_daq_refusal : DaqValue → Option Code
read_daq_refusal v = first_holding ((has_no_pointer v.pointer, DaqConfig) ∷ [])

-- the entry at the pointer
abbrev pub entry_by : Option Pointer → DaqValue → Option Element
entry_by None v = None
entry_by (Some p) v = get_or (odt_at v p.list p.odt) p.entry None

-- what READ_DAQ answers
abbrev pub read_daq_reply : DaqValue → Option Element
read_daq_reply v = entry_by v.pointer v

-- the pointer moves on
abbrev pub moved_by : Option Pointer → DaqValue → DaqValue
moved_by None v = v
moved_by (Some p) v = record v { pointer = moved_on v p }

-- what READ_DAQ does
abbrev pub read_daq_after : DaqValue → DaqValue
read_daq_after v = moved_by v.pointer v

-- whether this is a mode of lists: no bit is set, or bit 4 alone, with time stamps, where the layout has a clock
abbrev pub is_mode : LayoutValue → ℕ → Bool
is_mode layout mode = (mode == 0) || ((mode == 0x10) && has_stamp layout.clock.stamp)

-- the time stamp that a mode asks for
abbrev pub stamp_asked : LayoutValue → ℕ → Stamp
stamp_asked layout mode = if mode == 0 then Without else layout.clock.stamp

-- when SET_DAQ_LIST_MODE is refused: the event channel has to be one of the layout's
abbrev pub set_daq_list_mode_refusal : LayoutValue → ℕ → ℕ → ℕ → ℕ → DaqValue → Option Code
set_daq_list_mode_refusal layout mode list event prescaler v =
    first_holding (
    (not (is_mode layout mode), ModeNotValid)
    ∷ (lacks_list v list, OutOfRange)
    ∷ ((list_at v list).running, DaqActive)
    ∷ (nat_le (length layout.events) event, OutOfRange)
    ∷ (prescaler == 0, OutOfRange)
    ∷ [])

-- what SET_DAQ_LIST_MODE does
abbrev pub set_daq_list_mode_after : LayoutValue → ℕ → ℕ → ℕ → ℕ → ℕ → DaqValue → DaqValue
set_daq_list_mode_after layout mode list event prescaler priority v =
    with_list v list (record (list_at v list) { event = event; prescaler = prescaler; priority = priority; stamp = stamp_asked layout mode })
