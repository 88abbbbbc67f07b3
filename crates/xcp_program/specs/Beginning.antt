-- The layout that a slave begins with: as the configuration describes it, with the stored pages of a file, if there is one, and
-- with its A2L file, where it asks for one.
use Rattle.std.specs.Prelude.{◌≡◌, ◌≢◌, ℕ, List, [], Option, Some, None, if◌then◌else◌}
use Rattle.sha2.specs.Sha256.{sha256}
use Rattle.xcp_memory.specs.Layout.{LayoutValue, A2lFileValue, described}
use Rattle.xcp_config.specs.TableLayout.{File}
use Rattle.xcp_config.specs.ConfigText.{HasLayoutWith}
use Rattle.xcp_flash.specs.Decided.{pages_decided}
use Rattle.xcp_flash.specs.FlashFile.{file_of}
use Rattle.xcp_flash.specs.References.{AreReferences}
use Rattle.xcp_flash.specs.Restoring.{IsRestoredByEither}

-- A layout with the pages that a file keeps, or with its own where there is no file. The file is of what decides which stored pages are
-- the layout's, or, as files of before are, of the configuration's text.
abbrev pub HasStored : List ℕ → LayoutValue → Option (List ℕ) → LayoutValue → Type 0
HasStored config own None layout = layout ≡ own
HasStored config own (Some bytes) layout = IsRestoredByEither own (sha256 (pages_decided own)) (sha256 config) bytes layout

-- a layout with this A2L file, if there is one, where it asks that tools get it from the slave
abbrev pub with_a2l : Option A2lFileValue → LayoutValue → LayoutValue
with_a2l None layout = layout
with_a2l (Some file) layout = if layout.extras.uploads_a2l then described file layout else layout

-- A slave of this configuration, whose segments may name these files, begins with this layout, where this is its A2L file and the file of
-- the stored pages has these bytes, each if there is one.
pub record BeginsWith (files : List File) (config : List ℕ) (a2l : Option A2lFileValue) (flash : Option (List ℕ)) (layout : LayoutValue) : Type 0 where
  pub own : LayoutValue
  pub has : HasLayoutWith files config own
  pub paged : LayoutValue
  pub stored : HasStored config own flash paged
  pub whole : layout ≡ with_a2l a2l paged

-- the same of a configuration with no files
abbrev pub Begins : List ℕ → Option A2lFileValue → Option (List ℕ) → LayoutValue → Type 0
Begins config a2l flash layout = BeginsWith [] config a2l flash layout

-- the bytes are no file of pages that fit the layout
abbrev pub FitsNone : List ℕ → LayoutValue → Option (List ℕ) → Type 0
FitsNone config own None = ⊥
FitsNone config own (Some bytes) =
    (pages : List (List ℕ)) → AreReferences pages own
    → (bytes ≢ file_of (sha256 (pages_decided own)) pages) × (bytes ≢ file_of (sha256 config) pages)

-- the configuration describes a layout, and there is a file, but of no pages that fit that layout
pub record IsUnfitWith (files : List File) (config : List ℕ) (flash : Option (List ℕ)) : Type 0 where
  pub own : LayoutValue
  pub has : HasLayoutWith files config own
  pub fits : FitsNone config own flash

abbrev pub IsUnfit : List ℕ → Option (List ℕ) → Type 0
IsUnfit config flash = IsUnfitWith [] config flash
