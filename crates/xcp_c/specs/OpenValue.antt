-- A slave that a C program opened, and the text by which it was opened.
use Rattle.std.specs.Prelude.{ℕ, List}
use Rattle.xcp_controller.specs.ControllerValue.{ControllerValue}
use Rattle.xcp_flash.specs.FlashFile.{file_of}
use Rattle.xcp_flash.specs.References.{kept_pages}

pub record OpenValue : Type 0 where
  pub controller : ControllerValue
  -- the SHA-256 of the layout's text
  pub digest : List ℕ

-- the file of the reference pages that it keeps: where a store is requested those that this leaves, and else its own
abbrev pub file_kept : OpenValue → List ℕ
file_kept v = file_of v.digest (kept_pages v.controller.slave)
