-- The tree of lists, ODTs and entries that the pools hold: what the value of the lists is read off.
use Rattle.std.specs.Prelude.{ℕ, List, [], ◌∷◌, take, drop, Option}
use Rattle.std.specs.List.{flat_map}
use Rattle.xcp_memory.specs.declared.Class.{Class}
use Rattle.xcp_daq.specs.declared.allocation.Allocation.{Allocation}
use Rattle.xcp_daq.specs.declared.element.Element.{Element}
use Rattle.xcp_daq.specs.declared.mode.Mode.{Mode}
use Rattle.xcp_daq.specs.declared.pointer.Pointer.{Pointer}
use Rattle.xcp_daq.specs.DaqLists.{DaqList, DaqValue}

-- xs cut into parts of these lengths
abbrev pub parts : {A : Type 0} → List ℕ → List A → List (List A)
parts [] xs = []
parts (n ∷ ns) xs = take n xs ∷ parts ns (drop n xs)

-- the parts, one after another
abbrev pub joined : {A : Type 0} → List (List A) → List A
joined parts = flat_map (λ part. part) parts

-- a list of its mode and its ODTs
abbrev pub list_of : Mode → List (List (Option Element)) → DaqList
list_of m odts = record { event = m.event; prescaler = m.prescaler; priority = m.priority; running = m.running; selected = m.selected; since = m.since; stamp = m.stamp; odts = odts }

-- the lists of their modes and their ODTs, one by one
abbrev pub lists_of : List Mode → List (List (List (Option Element))) → List DaqList
lists_of (m ∷ ms) (odts ∷ rest) = list_of m odts ∷ lists_of ms rest
lists_of (m ∷ ms) [] = []
lists_of [] rest = []

-- the value of a class, the modes and the ODTs of its lists, a pointer and the last allocating command
abbrev pub daq_of : Class → List Mode → List (List (List (Option Element))) → Option Pointer → Option Allocation → DaqValue
daq_of class ms os p l = record { class = class; lists = lists_of ms os; pointer = p; last = l }
