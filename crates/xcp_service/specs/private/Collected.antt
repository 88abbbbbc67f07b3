-- What a keeper took by its post.
use Rattle.std.specs.Prelude.{◌≡◌, ◌≢◌, ℕ, List, [], ◌∷◌, ◌++◌}
use Rattle.std.specs.List.{AllByRecursion}
use Rattle.xcp_locked.specs.LockedSlave.{ChapterValue}
use Rattle.xcp_locked.specs.Sheaves.{SheafValue}
use Rattle.xcp_service.specs.Keeping.{KeeperValue}
use Rattle.xcp_service.specs.Parcels.{ParcelValue}
use Rattle.xcp_service.specs.Refusals.{RefusalValue}

-- the chapters in what was taken, in order
abbrev pub chapters_taken : List (ℕ × ParcelValue) → List ChapterValue
chapters_taken [] = []
chapters_taken (x ∷ xs) = x.1.chapters ++ chapters_taken xs

-- the sheaves in it
abbrev pub sheaves_taken : List (ℕ × ParcelValue) → List SheafValue
sheaves_taken [] = []
sheaves_taken (x ∷ xs) = x.1.sheaves ++ sheaves_taken xs

-- its sheaves are of the caller whose number it came under
abbrev pub IsOfItsCaller : ℕ × ParcelValue → Type 0
IsOfItsCaller x = AllByRecursion (λ (s : SheafValue). s.caller ≡ x.0) x.1.sheaves

-- its chapters came under this tag, if it has any
abbrev pub IsOfItsDesk : ℕ → ℕ × ParcelValue → Type 0
IsOfItsDesk desk x = x.0 ≢ desk → x.1.chapters ≡ []

-- A keeper has the chapters and sheaves that were taken; each chapter came under the tag of the desk, and each sheaf under the number of its
-- caller.
pub record IsCollected (desk : ℕ) (k : KeeperValue) (taken : List (ℕ × ParcelValue)) : Type 0 where
  pub chapters : k.chapters ≡ chapters_taken taken
  pub sheaves : k.sheaves ≡ sheaves_taken taken
  pub callers : AllByRecursion IsOfItsCaller taken
  pub only : AllByRecursion (IsOfItsDesk desk) taken

-- What a keeper refuses is what was taken last, under the number under which it came; all that it has was taken before.
pub record CameLast (desk : ℕ) (r : RefusalValue) (taken : List (ℕ × ParcelValue)) : Type 0 where
  pub earlier : List (ℕ × ParcelValue)
  pub has : IsCollected desk r.keeper earlier
  pub last : taken ≡ earlier ++ (r.number, r.came) ∷ []
