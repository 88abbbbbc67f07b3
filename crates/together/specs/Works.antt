-- Threads for works, and what comes of them.
use Rattle.std.specs.Prelude.{◌≡◌, ◌<◌, ℕ, List, length, slice_index_or}
use Rattle.together.specs.declared.work.Work as Work

module _ {T W : Type 0} (g : Work.Ghosts W T) where
  -- There are as many results as works, and each is what comes of the work at its place.
  pub record GivesEach (works : List W) (results : List T) : Type 0 where
    pub all : length results ≡ length works
    pub each : (i : ℕ) (w : W) (t : T) → i < length works → g.gives (slice_index_or works i w) (slice_index_or results i t)
