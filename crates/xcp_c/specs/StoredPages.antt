-- Writing out the file of the pages that a slave keeps.
use Rattle.std.specs.Prelude.{◌≡◌, ◌≤◌, ◌<◌, ◌⊎◌, ℕ, List, ◌++◌, length, drop, Option, Some, None}
use Rattle.xcp_flash.specs.declared.fault.FlashError.{FlashError}
use Rattle.xcp_flash.specs.declared.fault.FlashError.TheVariants as faults
use Rattle.xcp_memory.specs.declared.class.Class.{Class}
use Rattle.xcp_memory.specs.declared.class.Class.TheVariants.{Papers, Large}
use Rattle.xcp_slave.specs.SlaveValue.{layout_of}
use Rattle.xcp_c.specs.OpenValue.{OpenValue, file_kept}

-- the number of a fault of a file of stored pages
abbrev pub number_of_stored : FlashError → ℕ
number_of_stored faults.Head = 12
number_of_stored faults.Layout = 13
number_of_stored faults.Size = 14
number_of_stored faults.Digest = 15

-- how many bytes the file has at most, by the layout's class
abbrev pub most_stored : Class → ℕ
most_stored Papers = 2126
most_stored Large = 1048710

-- The slave's file stands at the front of the room, and so many bytes are used, at most as many as its layout's class has: nothing behind
-- them changes.
pub record IsWritten (v : OpenValue) (room written : List ℕ) (used : ℕ) : Type 0 where
  pub size : used ≡ length (file_kept v)
  pub most : used ≤ most_stored (layout_of v.controller.slave).class
  pub fits : used ≤ length room
  pub bytes : written ≡ file_kept v ++ drop used room

-- The slave's file has more bytes than the room, so many, at most as many as its layout's class has: nothing is written.
pub record LacksRoom (v : OpenValue) (room written : List ℕ) (used : ℕ) : Type 0 where
  pub size : used ≡ length (file_kept v)
  pub most : used ≤ most_stored (layout_of v.controller.slave).class
  pub short : length room < used
  pub same : written ≡ room

-- Writing the file of the slave behind a handle, which stays as it is: it is written; or the room is too short, 17; or the handle
-- owns no slave, 11, and nothing is told.
abbrev pub WritesFile : ℕ → Option OpenValue → Option OpenValue → List ℕ → List ℕ → ℕ → ℕ → Type 0
WritesFile n old new room written before used =
    (new ≡ old) × (
    ((v : OpenValue) × (old ≡ Some v) × (((n ≡ 0) × IsWritten v room written used) ⊎ ((n ≡ 17) × LacksRoom v room written used)))
    ⊎ ((old ≡ None) × (n ≡ 11) × (written ≡ room) × (used ≡ before)))
