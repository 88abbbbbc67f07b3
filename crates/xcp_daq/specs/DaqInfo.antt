-- What the commands that only ask are told.
-- (ASAM MCD-1 XCP, protocol layer, description of commands: GET_DAQ_LIST_MODE, GET_DAQ_PROCESSOR_INFO,
-- GET_DAQ_RESOLUTION_INFO, GET_DAQ_EVENT_INFO.)
use Rattle.std.specs.Prelude.{ℕ, ◌+◌, ◌*◌, nat_le, [], ◌∷◌, length, Option, if◌then◌else◌, slice_index_or as get_or}
use Rattle.xcp_packet.specs.declared.Code.{Code}
use Rattle.xcp_packet.specs.declared.Code.TheVariants.{OutOfRange}
use Rattle.xcp_packet.specs.TimeStamps.{stamp_size}
use Rattle.xcp_memory.specs.declared.Clock.{Clock}
use Rattle.xcp_memory.specs.ClassLimits.{limits_of}
use Rattle.xcp_memory.specs.Layout.{LayoutValue, EventValue, no_event}
use Rattle.xcp_packet.specs.Rows.{first_holding}
use Rattle.xcp_daq.specs.declared.reports.ListMode.{ListMode}
use Rattle.xcp_daq.specs.declared.reports.ProcessorInfo.{ProcessorInfo}
use Rattle.xcp_daq.specs.declared.reports.ResolutionInfo.{ResolutionInfo}
use Rattle.xcp_daq.specs.declared.reports.EventInfo.{EventInfo}
use Rattle.xcp_daq.specs.DaqLists.{DaqValue, DaqList, list_at, lacks_list, greatest_size, has_stamp}

-- when GET_DAQ_LIST_MODE is refused
abbrev pub daq_list_mode_refusal : ℕ → DaqValue → Option Code
daq_list_mode_refusal list v = first_holding ((lacks_list v list, OutOfRange) ∷ [])

-- the mode of a list; bit 0: selected; bit 4: with time stamps; bit 6: running
abbrev pub mode_bits : DaqList → ℕ
mode_bits l = (if l.selected then 0x01 else 0) + (if has_stamp l.stamp then 0x10 else 0) + (if l.running then 0x40 else 0)

-- what GET_DAQ_LIST_MODE is told
abbrev pub daq_list_mode_reply : ℕ → DaqValue → ListMode
daq_list_mode_reply list v =
    record { mode = mode_bits (list_at v list); event = (list_at v list).event; prescaler = (list_at v list).prescaler; priority = (list_at v list).priority }

-- DAQ_PROPERTIES: bit 0, lists are allocated; bit 1, they have prescalers; bit 4, they may have time stamps; bit 7, an event
-- packet tells of a lost sample
abbrev pub daq_properties : LayoutValue → ℕ
daq_properties layout = 0x03 + (if has_stamp layout.clock.stamp then 0x10 else 0) + (if layout.extras.tells_overload then 0x80 else 0)

-- GET_DAQ_PROCESSOR_INFO: the properties, and how many lists and how many event channels there are
abbrev pub processor_info_reply : LayoutValue → DaqValue → ProcessorInfo
processor_info_reply layout v = record { properties = daq_properties layout; lists = length v.lists; events = length layout.events }

-- TIMESTAMP_MODE: how many bytes a time stamp has, and from bit 4 on the unit of time; 0 without a clock
abbrev pub timestamp_mode : Clock → ℕ
timestamp_mode clock = if has_stamp clock.stamp then stamp_size clock.stamp + 0x10 * clock.unit else 0

-- TIMESTAMP_TICKS: how many units a tick has; 0 without a clock
abbrev pub timestamp_ticks : Clock → ℕ
timestamp_ticks clock = if has_stamp clock.stamp then clock.ticks else 0

-- GET_DAQ_RESOLUTION_INFO: how many bytes an ODT entry has at most, and the clock
abbrev pub resolution_info_reply : LayoutValue → ResolutionInfo
resolution_info_reply layout = record { greatest = greatest_size layout; mode = timestamp_mode layout.clock; ticks = timestamp_ticks layout.clock }

-- when GET_DAQ_EVENT_INFO is refused
abbrev pub event_info_refusal : LayoutValue → ℕ → Option Code
event_info_refusal layout channel = first_holding ((nat_le (length layout.events) channel, OutOfRange) ∷ [])

-- what is told of an event channel, which can have so many lists
abbrev pub info_of_event : ℕ → EventValue → EventInfo
info_of_event lists e = record { lists = lists; name_length = length e.name; cycle = e.cycle; unit = e.unit; priority = e.priority }

-- what GET_DAQ_EVENT_INFO is told
abbrev pub event_info_reply : LayoutValue → ℕ → EventInfo
event_info_reply layout channel = info_of_event (limits_of layout.class).lists (get_or layout.events channel no_event)
