-- What a shared slave publishes.
use Rattle.std.specs.Prelude.{◌≡◌, ◌≢◌, ◌⊎◌, ℕ, List, [], ◌∷◌, ◌++◌, length}
use Rattle.xcp_slave.specs.declared.Exchange.{Exchange}
use Rattle.xcp_memory.specs.Layout.{LayoutValue}
use Rattle.xcp_slave.specs.Run.{Run}
use Rattle.xcp_slave.specs.SlaveValue.{SlaveValue, opening}
use Rattle.xcp_locked.specs.LockedSlave.{LockedValue}
use Rattle.xcp_locked.specs.Publications.{Publication, Published, image_of, images_of}

-- The call published the new image where it differs from the one before, and else nothing.
abbrev pub Publishes : LockedValue → LockedValue → Type 0
Publishes old new =
    ((image_of new.slave ≡ image_of old.slave) × (new.writer.publications ≡ old.writer.publications))
    ⊎ ((image_of new.slave ≢ image_of old.slave) × (new.writer.publications ≡ old.writer.publications ++ image_of new.slave ∷ []))

-- The images are those published of these exchanges of a slave that was v.
abbrev pub AreImages : SlaveValue → List Exchange → List (List ℕ) → Type 0
AreImages v xs images = (list : List Publication) × Published v xs list × (images ≡ images_of list)

-- From the image with this number on they are those published of these exchanges of a slave that was v.
abbrev pub AreImagesFrom : ℕ → SlaveValue → List Exchange → List (List ℕ) → Type 0
AreImagesFrom first v xs images = (front : List (List ℕ)) × (length front ≡ first) × (list : List Publication) × Published v xs list × (images ≡ front ++ images_of list)

-- The images are all that was published since the opening: so many calls led from there to v, in whatever chapters, these exchanges go
-- on from there, and the images are those published of all of them.
pub record AreAllImages (layout : LayoutValue) (calls : ℕ) (v : SlaveValue) (xs : List Exchange) (images : List (List ℕ)) : Type 0 where
  pub past : List Exchange
  pub count : length past ≡ calls
  pub run : Run (opening layout) past v
  pub published : AreImages (opening layout) (past ++ xs) images
