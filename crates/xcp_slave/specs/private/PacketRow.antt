-- A row of packets, of which the first were taken out already, and the list of those behind them.
use Rattle.std.specs.Prelude.{ℕ, ◌+◌, ◌≤◌, List, [], ◌∷◌, Option, Some, None}
use Rattle.arrayvec.specs.ArrayVec.{ArrayVec}
use Rattle.xcp_memory.specs.declared.Class.{Class}
use Rattle.xcp_memory.specs.declared.ClassLimits.{ClassLimits}

-- the first of a list, and those behind it
abbrev pub first_in : {A : Type 0} → List A → Option A
first_in [] = None
first_in (x ∷ xs) = Some x

abbrev pub behind_first : {A : Type 0} → List A → List A
behind_first [] = []
behind_first (x ∷ xs) = xs

-- how long a row gets before those that were taken out leave it
abbrev pub long_row : ClassLimits → ℕ
long_row limits = 64 + limits.odts

-- so many of a row of this length were taken out, in a store with room for so many, by the limits of a class
pub record IsRow (limits : ClassLimits) (taken len capacity : ℕ) : Type 0 where
  pub inside : taken ≤ len
  pub few : len ≤ taken + limits.packets
  pub room : long_row limits + limits.packets ≤ capacity

-- the packets that wait, and the class, whose limit holds
pub record OutboxValue : Type 0 where
  pub class : Class
  pub packets : List (ArrayVec ℕ)
