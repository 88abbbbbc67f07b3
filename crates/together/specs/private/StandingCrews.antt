-- What the threads of crews stand for while they run.
use Rattle.std.specs.Prelude.{◌≡◌, ◌<◌, ℕ, List, length, slice_index_or}
use Rattle.std.specs.declared.thread.PromisedHandle.{PromisedHandle}
use Rattle.std.specs.declared.thread.Promise as Promise
use Rattle.together.specs.declared.work.Given.{Given}

-- the handles of a crew
abbrev pub Two : Type 0 → Type 0 → Type 0 → Type 0 → Type 0
Two X P Y Q = PromisedHandle X P × PromisedHandle Y Q

-- each of the two works of a crew has a thread that promises what comes of it
pub record CrewStands {X Y A B : Type 0} (crew : A × B) (handles : Two X (Given A) Y (Given B)) : Type 0 where
  pub first : handles.0.promise.0.value ≡ crew.0
  pub second : handles.1.promise.0.value ≡ crew.1

-- For each crew there are threads, at the same place.
pub record CrewsStand {X Y A B : Type 0} (crews : List (A × B)) (handles : List (Two X (Given A) Y (Given B))) : Type 0 where
  pub all : length handles ≡ length crews
  pub each : (i : ℕ) (w : A × B) (h : Two X (Given A) Y (Given B)) → i < length crews → CrewStands (slice_index_or crews i w) (slice_index_or handles i h)

module _ {X P Y Q : Type 0} (p : Promise.Ghosts P X) (q : Promise.Ghosts Q Y) where
  -- what came of a crew is what its threads promised
  pub record CrewKeeps (handles : Two X P Y Q) (result : X × Y) : Type 0 where
    pub first : p.kept_by handles.0.promise result.0
    pub second : q.kept_by handles.1.promise result.1

  -- the result is what the threads of crew i promised
  pub record KeepsCrewAt (handles : List (Two X P Y Q)) (i : ℕ) (result : X × Y) : Type 0 where
    pub two : Two X P Y Q
    pub two_is : two ≡ slice_index_or handles i two
    pub kept : CrewKeeps two result

  -- what came of each crew stands at its place
  abbrev pub CrewsKeep : List (Two X P Y Q) → List (X × Y) → Type 0
  CrewsKeep handles results = (i : ℕ) (t : X × Y) → i < length handles → KeepsCrewAt handles i (slice_index_or results i t)
