-- A slave and its bank's writer, as contracts see them.
use Rattle.std.specs.Prelude.{◌≡◌, ◌≢◌, ◌⊎◌, ℕ, List, [], ◌∷◌, ◌++◌}
use Rattle.arrayvec.specs.ArrayVec.{ArrayVec}
use Rattle.xcp_bank.specs.BankId.{image_bytes}
use Rattle.xcp_bank.specs.BankEnds.{ReaderEnd, WriterEnd}
use Rattle.xcp_memory.specs.EcuImage.{ecu_image}
use Rattle.xcp_slave.specs.SlaveValue.{SlaveValue}

pub record ControllerValue : Type 0 where
  pub slave : SlaveValue
  pub writer : WriterEnd
  -- the readers that nobody has taken yet
  pub spare : List ReaderEnd
  -- the packet that is lent to the slave
  pub lent : ArrayVec ℕ

-- a reader of images of so many bytes
abbrev pub ReadsImages : ℕ → ReaderEnd → Type 0
ReadsImages size r = image_bytes r.bank ≡ size

-- the controller's image of a slave
abbrev pub image_of : SlaveValue → List ℕ
image_of v = ecu_image v.transfer.pages

-- the image published last is that of the slave
abbrev pub IsPublished : SlaveValue → WriterEnd → Type 0
IsPublished v w = (earlier : List (List ℕ)) × (w.publications ≡ earlier ++ image_of v ∷ [])

-- The request published the new image where it differs from the one before, and else nothing; the bank is the same.
abbrev pub Publishes : ControllerValue → ControllerValue → Type 0
Publishes old new =
    (new.writer.bank ≡ old.writer.bank)
    × (((image_of new.slave ≡ image_of old.slave) × (new.writer.publications ≡ old.writer.publications))
    ⊎ ((image_of new.slave ≢ image_of old.slave) × (new.writer.publications ≡ old.writer.publications ++ image_of new.slave ∷ [])))
