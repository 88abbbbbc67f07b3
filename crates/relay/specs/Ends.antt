-- What contracts see of a relay and of its ends.
use Rattle.std.specs.Prelude.{◌≡◌, ◌≤◌, length, ℕ, Bool, List, [], ◌∷◌, ◌++◌, ◌==◌, if◌then◌else◌}
use Rattle.std.specs.declared.alloc.Global.{Global}
use Rattle.crossbeam_queue.specs.SegTies.{SegId}

-- Which relay it is. Contracts compare it, and look at nothing in it.
pub record RelayId : Type 0 where
  pub queue : SegId Global

-- A giver: its relay, its tag, and all items that it handed in, in order.
pub record GiverValue (T : Type 0) : Type 0 where
  pub relay : RelayId
  pub tag : ℕ
  pub given : List T

-- A taker: its relay, how many givers that has, and all items that it took, in order, each with its tag.
pub record TakerValue (T : Type 0) : Type 0 where
  pub relay : RelayId
  pub givers : ℕ
  pub taken : List (ℕ × T)

-- A tray: its giver's relay and tag, all items that were put, in order, and whether none of them lies on it yet.
pub record TrayValue (T : Type 0) : Type 0 where
  pub relay : RelayId
  pub tag : ℕ
  pub put : List T
  pub is_free : Bool

-- the items of one tag, in order
abbrev pub items_of : {T : Type 0} → ℕ → List (ℕ × T) → List T
items_of tag [] = []
items_of tag (x ∷ xs) = if x.0 == tag then x.1 ∷ items_of tag xs else items_of tag xs

-- All that a giver handed in was taken, in order.
abbrev pub IsAllTaken : {T : Type 0} → GiverValue T → TakerValue T → Type 0
IsAllTaken giver taker = items_of giver.tag taker.taken ≡ giver.given

-- What was taken of a giver begins what it handed in, and at most so many of its items were not taken.
abbrev pub LacksAtMost : {T : Type 0} → ℕ → GiverValue T → TakerValue T → Type 0
LacksAtMost {T} count giver taker = (rest : List T) × (giver.given ≡ items_of giver.tag taker.taken ++ rest) × (length rest ≤ count)

-- for who has to name some relay before there is one: no relay is this
abbrev pub no_relay : RelayId
no_relay = record { queue = record { web = (0, 0); heap = record { memory = record { seal = tt } } } }
