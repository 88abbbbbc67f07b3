-- The acquisition lists: a tree of DAQ lists, their ODTs, and the ODTs' entries.
-- (ASAM MCD-1 XCP, protocol layer: DAQ lists and ODTs; dynamic DAQ configuration.)
use Rattle.std.specs.Prelude.{ℕ, ◌+◌, ◌-◌, Bool, false, ◌||◌, List, [], ◌∷◌, length, take, Option, Some, None, nat_le, nat_lt, slice_index_or as get_or, slice_set, sum_by}
use Rattle.std.specs.List.{flat_map, list_any}
use Rattle.xcp_packet.specs.declared.Stamp.{Stamp}
use Rattle.xcp_packet.specs.declared.Stamp.TheVariants.{Without}
use Rattle.xcp_packet.specs.TimeStamps.{stamp_size}
use Rattle.xcp_memory.specs.declared.Class.{Class}
use Rattle.xcp_memory.specs.Layout.{LayoutValue}
use Rattle.xcp_daq.specs.declared.element.Element.{Element}
use Rattle.xcp_daq.specs.declared.pointer.Pointer.{Pointer}
use Rattle.xcp_daq.specs.declared.allocation.Allocation.{Allocation}

-- A DAQ list: its event channel, prescaler and priority, whether it runs and whether it is selected, the events
-- of its channel since its start modulo its prescaler (0 while it is stopped), the time stamp of its samples, and its
-- ODTs, each a list of entries: an entry is an element, or None while it is unwritten.
-- (Protocol layer, description of commands: SET_DAQ_LIST_MODE, START_STOP_DAQ_LIST, WRITE_DAQ.)
pub record DaqList : Type 0 where
  pub event : ℕ
  pub prescaler : ℕ
  pub priority : ℕ
  pub running : Bool
  pub selected : Bool
  pub since : ℕ
  pub stamp : Stamp
  pub odts : List (List (Option Element))

-- The class, whose limits hold, the lists, the DAQ pointer, and the last allocating command since the session began.
-- (Protocol layer, description of commands: SET_DAQ_PTR; dynamic DAQ configuration.)
pub record DaqValue : Type 0 where
  pub class : Class
  pub lists : List DaqList
  pub pointer : Option Pointer
  pub last : Option Allocation

-- no lists, no pointer, nothing allocated: at the start, and after a session's end
abbrev pub opening_daq : Class → DaqValue
opening_daq class = record { class = class; lists = []; pointer = None; last = None }

-- a new list: event channel 0, prescaler 1, priority 0, stopped, unselected, with no time stamp and no ODT
abbrev pub no_list : DaqList
no_list = record { event = 0; prescaler = 1; priority = 0; running = false; selected = false; since = 0; stamp = Without; odts = [] }

-- list i
abbrev pub list_at : DaqValue → ℕ → DaqList
list_at v i = get_or v.lists i no_list

-- the entries of ODT j of list i
abbrev pub odt_at : DaqValue → ℕ → ℕ → List (Option Element)
odt_at v i j = get_or (list_at v i).odts j []

-- whether there is no list i
abbrev pub lacks_list : DaqValue → ℕ → Bool
lacks_list v i = nat_le (length v.lists) i

-- whether list i has no ODT j
abbrev pub lacks_odt : DaqValue → ℕ → ℕ → Bool
lacks_odt v i j = nat_le (length (list_at v i).odts) j

-- whether that ODT has no entry k
abbrev pub lacks_entry : DaqValue → ℕ → ℕ → ℕ → Bool
lacks_entry v i j k = nat_le (length (odt_at v i j)) k

-- whether a list runs
abbrev pub any_running : DaqValue → Bool
any_running v = list_any (λ l. l.running) v.lists

-- all ODTs, list by list
abbrev pub all_odts : List DaqList → List (List (Option Element))
all_odts lists = flat_map (λ l. l.odts) lists

-- all entries, ODT by ODT
abbrev pub all_entries : List DaqList → List (Option Element)
all_entries lists = flat_map (λ odt. odt) (all_odts lists)

-- FIRST_PID of list i: the number of ODTs of the lists before it
-- (Protocol layer, description of commands: START_STOP_DAQ_LIST.)
abbrev pub first_pid : ℕ → DaqValue → ℕ
first_pid i v = length (all_odts (take i v.lists))

-- how many bytes an entry has
abbrev pub entry_size : Option Element → ℕ
entry_size (Some e) = e.size
entry_size None = 0

-- the size of an ODT: the sum of its entries' sizes
abbrev pub odt_size : List (Option Element) → ℕ
odt_size odt = sum_by entry_size odt

-- how many bytes an ODT, and so an entry, has at most: a data packet has its PID before them
abbrev pub greatest_size : LayoutValue → ℕ
greatest_size layout = layout.max_dto - 1

-- whether one of the ODTs has more bytes than that
abbrev pub any_large : ℕ → List (List (Option Element)) → Bool
any_large greatest odts = list_any (λ odt. nat_lt greatest (odt_size odt)) odts

-- whether samples of a list have this time stamp
abbrev pub has_stamp : Stamp → Bool
has_stamp stamp = nat_lt 0 (stamp_size stamp)

-- the size of the first ODT
abbrev pub first_size : List (List (Option Element)) → ℕ
first_size [] = 0
first_size (odt ∷ odts) = odt_size odt

-- whether an ODT of the list has more bytes than that, or the first one has with the time stamp that stands before its bytes
abbrev pub is_large : ℕ → DaqList → Bool
is_large greatest l = any_large greatest l.odts || nat_lt greatest (stamp_size l.stamp + first_size l.odts)

-- whether an ODT of the list has more bytes than a data packet holds
abbrev pub has_large_odt : LayoutValue → DaqList → Bool
has_large_odt layout l = is_large (greatest_size layout) l

-- v with another list i
abbrev pub with_list : DaqValue → ℕ → DaqList → DaqValue
with_list v i l = record v { lists = slice_set v.lists i l }

-- v with other entries in ODT j of list i
abbrev pub with_odt : DaqValue → ℕ → ℕ → List (Option Element) → DaqValue
with_odt v i j odt = with_list v i (record (list_at v i) { odts = slice_set (list_at v i).odts j odt })
