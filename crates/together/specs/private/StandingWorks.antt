-- What the threads of works stand for while they run.
use Rattle.std.specs.Prelude.{◌≡◌, ◌<◌, ℕ, List, length, slice_index_or}
use Rattle.std.specs.declared.thread.PromisedHandle.{PromisedHandle}
use Rattle.together.specs.declared.work.Given.{Given}

-- For each work there is a thread, at the same place, that promises what comes of it.
pub record AllWorksStand {T W : Type 0} (works : List W) (handles : List (PromisedHandle T (Given W))) : Type 0 where
  pub all : length handles ≡ length works
  pub each : (i : ℕ) (w : W) (h : PromisedHandle T (Given W)) → i < length works → (slice_index_or handles i h).promise.0.value ≡ slice_index_or works i w
