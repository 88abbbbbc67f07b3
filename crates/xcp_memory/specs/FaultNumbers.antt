-- The numbers of the faults of a layout.
use Rattle.std.specs.Prelude.{ℕ}
use Rattle.xcp_memory.specs.declared.key.LayoutFault.{LayoutFault}
use Rattle.xcp_memory.specs.declared.key.LayoutFault.TheVariants.{Range, Overlap, TooMany}

-- the number of a fault
abbrev pub number_of : LayoutFault → ℕ
number_of (Range k) = 1
number_of (Overlap a b) = 2
number_of (TooMany k) = 3
