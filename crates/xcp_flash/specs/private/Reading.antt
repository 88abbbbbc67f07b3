-- Pages at the front of bytes, as they are read.
use Rattle.std.specs.Prelude.{◌≡◌, ℕ, List, ◌++◌, length}
use Rattle.std.specs.List.{flat_map}
use Rattle.sha2.specs.Sha256.{sha256}
use Rattle.xcp_memory.specs.Layout.{LayoutValue}
use Rattle.xcp_flash.specs.FlashFile.{body_of, head, page_in}
use Rattle.xcp_flash.specs.References.{AreReferences}

-- the bytes begin with a page of this size, and these stand behind it
pub record BeginsWithPage (size : ℕ) (bytes page more : List ℕ) : Type 0 where
  pub long : length page ≡ size
  pub whole : bytes ≡ page_in page ++ more

-- the bytes begin with pages of the sizes of the layout's segments, and these stand behind them
pub record BeginsWithPages (l : LayoutValue) (bytes : List ℕ) (pages : List (List ℕ)) (more : List ℕ) : Type 0 where
  pub sized : AreReferences pages l
  pub whole : bytes ≡ flat_map page_in pages ++ more

-- The file is whole, and these are the bytes behind its head.
pub record IsWholeRead (l : LayoutValue) (layout_digest file bytes : List ℕ) : Type 0 where
  pub pages : List (List ℕ)
  pub found : BeginsWithPages l bytes pages (sha256 (body_of layout_digest pages))
  pub whole : file ≡ head layout_digest ++ bytes
