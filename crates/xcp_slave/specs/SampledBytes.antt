-- The packets of an event, in words of what the controller reads.
-- (ASAM MCD-1 XCP, protocol layer: DAQ, data packets and their identification field; event channels, prescaler.)
use Rattle.std.specs.Prelude.{◌≡◌, ℕ, ◌+◌, List, [], ◌∷◌, ◌++◌, Option, Some, None, MatchBool}
use Rattle.arrayvec.specs.ArrayVec.{ArrayVec}
use Rattle.xcp_memory.specs.Memory.{Controller, Reads}
use Rattle.xcp_memory.specs.Pages.{PagesValue}
use Rattle.xcp_daq.specs.declared.element.Element.{Element}
use Rattle.xcp_daq.specs.DaqLists.{DaqValue, DaqList, first_pid}
use Rattle.xcp_daq.specs.Sample.{due, packet_of, stamped_packet, stamp_of}

-- These are the bytes of an ODT: entry by entry those that the controller reads there; an unwritten entry has none.
abbrev pub ReadsOdt : PagesValue → List (Option Element) → List ℕ → Type 0
ReadsOdt pages [] bytes = bytes ≡ []
ReadsOdt pages (None ∷ odt) bytes = ReadsOdt pages odt bytes
ReadsOdt pages (Some e ∷ odt) bytes =
    (own : List ℕ) × (rest : List ℕ) × Reads Controller pages e.address e.size own × ReadsOdt pages odt rest × (bytes ≡ own ++ rest)

-- These are the packets of ODTs, whose PIDs are the numbers from the first one on: of each ODT its PID and its bytes.
abbrev pub OdtPackets : PagesValue → ℕ → List (List (Option Element)) → List (ArrayVec ℕ) → Type 0
OdtPackets pages pid [] packets = packets ≡ []
OdtPackets pages pid (odt ∷ odts) packets =
    (bytes : List ℕ) × (rest : List (ArrayVec ℕ)) × ReadsOdt pages odt bytes × OdtPackets pages (pid + 1) odts rest
    × (packets ≡ packet_of pid bytes ++ rest)

-- These are the packets of a list: the same, and in the packet of its first ODT this time stamp stands before the bytes.
abbrev pub ListPackets : PagesValue → ℕ → List ℕ → List (List (Option Element)) → List (ArrayVec ℕ) → Type 0
ListPackets pages pid stamp [] packets = packets ≡ []
ListPackets pages pid stamp (odt ∷ odts) packets =
    (bytes : List ℕ) × (rest : List (ArrayVec ℕ)) × ReadsOdt pages odt bytes × OdtPackets pages (pid + 1) odts rest
    × (packets ≡ stamped_packet pid stamp bytes ++ rest)

-- These are an event's packets at a time of the lists from list i on: those of each list that is due, from its first PID on,
-- with its time stamp.
abbrev pub DuePackets : ℕ → ℕ → PagesValue → DaqValue → ℕ → List DaqList → List (ArrayVec ℕ) → Type 0
DuePackets channel time pages v i [] packets = packets ≡ []
DuePackets channel time pages v i (l ∷ lists) packets =
    (own : List (ArrayVec ℕ)) × (rest : List (ArrayVec ℕ))
    × MatchBool (due channel l) (ListPackets pages (first_pid i v) (stamp_of pages time l) l.odts own) (own ≡ [])
    × DuePackets channel time pages v (i + 1) lists rest × (packets ≡ own ++ rest)
