-- The sample of an event: the data packets of the lists that are due.
-- (ASAM MCD-1 XCP, protocol layer: DAQ, data packets and their identification field; event channels, prescaler.)
use Rattle.std.specs.Prelude.{ℕ, ◌+◌, ◌%◌, ◌==◌, ◌&&◌, Bool, List, [], ◌∷◌, ◌++◌, map, Option, Some, None, if◌then◌else◌}
use Rattle.std.specs.List.{flat_map, enumerate_from}
use Rattle.arrayvec.specs.ArrayVec.{ArrayVec}
use Rattle.xcp_packet.specs.TimeStamps.{stamp_bytes}
use Rattle.xcp_memory.specs.Pages.{PagesValue}
use Rattle.xcp_memory.specs.ComputedAccess.{lies_inside, controller_bytes}
use Rattle.xcp_daq.specs.declared.element.Element.{Element}
use Rattle.xcp_daq.specs.DaqLists.{DaqValue, DaqList, first_pid}

-- a list that runs counts the events of its channel
abbrev pub counts : ℕ → DaqList → Bool
counts channel l = l.running && (l.event == channel)

-- it is due at the first event after its start and then at each p-th, p being its prescaler
abbrev pub due : ℕ → DaqList → Bool
due channel l = counts channel l && (l.since == 0)

-- what the controller has at an element; a range that doesn't lie in one area gives nothing
abbrev pub element_bytes : PagesValue → Element → List ℕ
element_bytes pages e = if lies_inside pages.layout e.address e.size then controller_bytes pages e.address e.size else []

-- an unwritten entry gives nothing
abbrev pub entry_bytes : PagesValue → Option Element → List ℕ
entry_bytes pages (Some e) = element_bytes pages e
entry_bytes pages None = []

-- the bytes of an ODT: those of its written entries in order
abbrev pub odt_bytes : PagesValue → List (Option Element) → List ℕ
odt_bytes pages odt = flat_map (entry_bytes pages) odt

-- the packet of these bytes: the PID, a time stamp, and then they; no bytes give no packet
abbrev pub stamped_packet : ℕ → List ℕ → List ℕ → List (ArrayVec ℕ)
stamped_packet pid stamp [] = []
stamped_packet pid stamp (byte ∷ bytes) = record { items = pid ∷ (stamp ++ byte ∷ bytes) } ∷ []

-- the packet without a time stamp
abbrev pub packet_of : ℕ → List ℕ → List (ArrayVec ℕ)
packet_of pid bytes = stamped_packet pid [] bytes

-- the packet of an ODT with this PID
abbrev pub odt_packets : PagesValue → ℕ × List (Option Element) → List (ArrayVec ℕ)
odt_packets pages (pid, odt) = packet_of pid (odt_bytes pages odt)

-- the packets of ODTs, whose PIDs are the numbers from the first one on
abbrev pub packets_from : PagesValue → ℕ → List (List (Option Element)) → List (ArrayVec ℕ)
packets_from pages first odts = flat_map (odt_packets pages) (enumerate_from first odts)

-- the same with a time stamp in the packet of the first ODT
abbrev pub stamped_packets : PagesValue → ℕ → List ℕ → List (List (Option Element)) → List (ArrayVec ℕ)
stamped_packets pages first stamp [] = []
stamped_packets pages first stamp (odt ∷ odts) = stamped_packet first stamp (odt_bytes pages odt) ++ packets_from pages (first + 1) odts

-- the time stamp of a list at a time: in this layout's byte order, as many bytes as the list's mode says
abbrev pub stamp_of : PagesValue → ℕ → DaqList → List ℕ
stamp_of pages time l = stamp_bytes pages.layout.order l.stamp time

-- the packets of list i at a time, if it is due
abbrev pub list_packets : ℕ → ℕ → PagesValue → DaqValue → ℕ × DaqList → List (ArrayVec ℕ)
list_packets channel time pages v (i, l) = if due channel l then stamped_packets pages (first_pid i v) (stamp_of pages time l) l.odts else []

-- the packets of an event at a time: those of the due lists in order
abbrev pub sampled : ℕ → ℕ → PagesValue → DaqValue → List (ArrayVec ℕ)
sampled channel time pages v = flat_map (list_packets channel time pages v) (enumerate_from 0 v.lists)

-- a list after an event: one that runs on the channel counts it
abbrev pub counted : ℕ → DaqList → DaqList
counted channel l = if counts channel l then record l { since = (l.since + 1) % l.prescaler } else l

-- the lists after an event
abbrev pub after_event : ℕ → DaqValue → DaqValue
after_event channel v = record v { lists = map (counted channel) v.lists }
