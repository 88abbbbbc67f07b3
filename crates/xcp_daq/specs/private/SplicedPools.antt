-- How the pools that hold the lists are changed.
use Rattle.std.specs.Prelude.{◌≡◌, ℕ, ◌+◌, ◌%◌, ◌==◌, ◌&&◌, not, true, false, if◌then◌else◌, List, [], ◌∷◌, ◌++◌, length, take, drop, Option}
use Rattle.xcp_daq.specs.declared.element.Element.{Element}
use Rattle.xcp_daq.specs.declared.mode.Mode.{Mode}

-- the sum of the numbers
abbrev pub total : List ℕ → ℕ
total [] = 0
total (n ∷ ns) = n + total ns

-- xs with ys put in at place i
abbrev pub spliced : {A : Type 0} → List A → ℕ → List A → List A
spliced xs i ys = take i xs ++ (ys ++ drop i xs)

-- when the pools of ODTs and entries fit each other
pub record IsFit (odt_counts entry_counts : List ℕ) (entries : List (Option Element)) : Type 0 where
  pub cut : total odt_counts ≡ length entry_counts
  pub filled : total entry_counts ≡ length entries

-- what START_STOP_SYNCH does to the mode of a list
abbrev pub synchronised_mode : ℕ → Mode → Mode
synchronised_mode mode m =
    record (if mode == 0 then record m { running = false; since = 0 } else (if not m.selected then m else (if mode == 1 then record m { running = true; since = 0 } else record m { running = false; since = 0 }))) { selected = false }

-- what an event does to the mode of a list
abbrev pub counted_mode : ℕ → Mode → Mode
counted_mode channel m = if m.running && (m.event == channel) then record m { since = (m.since + 1) % m.prescaler } else m
