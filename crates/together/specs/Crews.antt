-- Threads for crews of two works, and what comes of them.
use Rattle.std.specs.Prelude.{◌≡◌, ◌<◌, ℕ, List, length, slice_index_or}
use Rattle.together.specs.declared.work.Work as Work

module _ {X A Y B : Type 0} (a : Work.Ghosts A X) (b : Work.Ghosts B Y) where
  -- what came of a crew is what comes of its two works
  pub record GivesCrew (crew : A × B) (result : X × Y) : Type 0 where
    pub first : a.gives crew.0 result.0
    pub second : b.gives crew.1 result.1

  -- There are as many results as crews, and each is what comes of the crew at its place.
  pub record GivesEachCrew (crews : List (A × B)) (results : List (X × Y)) : Type 0 where
    pub all : length results ≡ length crews
    pub each : (i : ℕ) (w : A × B) (t : X × Y) → i < length crews → GivesCrew (slice_index_or crews i w) (slice_index_or results i t)
