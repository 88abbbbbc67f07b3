-- Laws of layouts.
use Rattle.std.specs.Prelude.{◌≡◌, ℕ, ℤ, pos, ◌≤◌, ◌↔◌, ◌≢◌, All, true, None}
use Rattle.xcp_memory.specs.declared.parts.Parts.{Parts}
use Rattle.xcp_memory.specs.Layout.{LayoutValue, IsLayout}
use Rattle.xcp_memory.specs.LayoutParts.{number, layout_from}
use Rattle.xcp_memory.specs.Limits.{first_fault}
use Rattle.xcp_memory.specs.Memory.{LiesIn, LiesInside}
use Rattle.xcp_memory.specs.ComputedAccess.{lies_inside}

-- an address lies in one area at most
abbrev pub AreasShareNoAddress : Type 0
AreasShareNoAddress = (l : LayoutValue) (address i j : ℕ) → IsLayout l → LiesIn l address 1 i → LiesIn l address 1 j → i ≡ j

-- a number that isn't negative, and one from 0 to 255
abbrev pub IsNatural : ℤ → Type 0
IsNatural z = z ≡ pos (number z)

abbrev pub IsByte : ℤ → Type 0
IsByte z = IsNatural z × (number z ≤ 255)

-- What a layout doesn't tell of the parts that it was made of: none of their numbers is negative, that of the type of
-- checksums is one from 1 to 6, a time stamp has 0, 1, 2 or 4 bytes, and the numbers of event channels are bytes.
pub record AreNumbers (p : Parts) : Type 0 where
  pub cto : IsNatural p.max_cto
  pub dto : IsNatural p.max_dto
  pub checksum : IsNatural p.checksum
  pub kinds : (1 ≤ number p.checksum) × (number p.checksum ≤ 6)
  pub stamp_natural : IsNatural p.clock.size
  pub stamp_most : number p.clock.size ≤ 4
  pub stamp_known : number p.clock.size ≢ 3
  pub unit : IsNatural p.clock.unit
  pub ticks : IsNatural p.clock.ticks
  pub segments : All (λ s. IsNatural s.address × IsNatural s.pages) p.segments.items
  pub signals_address : IsNatural p.signals_address
  pub signals_length : IsNatural p.signals_length
  pub events : All (λ e. IsByte e.cycle × IsByte e.unit × IsByte e.priority) p.events.items

-- parts break no limit exactly where the layout that they make is within all limits, and their numbers are numbers of it
abbrev pub KeptLimitsMakeALayout : Type 0
KeptLimitsMakeALayout = (p : Parts) → (first_fault p ≡ None) ↔ (IsLayout (layout_from p) × AreNumbers p)

-- the word that computes whether a range lies in one area says what the relation says
abbrev pub RangesAreDecided : Type 0
RangesAreDecided = (l : LayoutValue) (address n : ℕ) → (lies_inside l address n ≡ true) ↔ LiesInside l address n
