-- Which files are restored, and what is wrong with the others.
use Rattle.std.specs.Prelude.{◌≡◌, ◌≢◌, ◌≤◌, ◌⊎◌, ℕ, List, ◌++◌, length, take}
use Rattle.sha2.specs.Sha256.{sha256}
use Rattle.xcp_memory.specs.Layout.{LayoutValue}
use Rattle.xcp_flash.specs.declared.fault.FlashError.{FlashError}
use Rattle.xcp_flash.specs.declared.fault.FlashError.TheVariants as errors
use Rattle.xcp_flash.specs.FlashFile.{flash_magic, head, body_of, file_of}
use Rattle.xcp_flash.specs.References.{AreReferences, with_references}

-- The bytes are a head with this digest, pages of the sizes of the layout's segments, and 32 bytes more.
pub record HasPages (l : LayoutValue) (layout_digest file : List ℕ) : Type 0 where
  pub pages : List (List ℕ)
  pub digest : List ℕ
  pub sized : AreReferences pages l
  pub size : length digest ≡ 32
  pub whole : file ≡ body_of layout_digest pages ++ digest

-- The bytes are a whole file, and new is the layout l with its pages.
pub record IsRestored (l : LayoutValue) (layout_digest file : List ℕ) (new : LayoutValue) : Type 0 where
  pub pages : List (List ℕ)
  pub sized : AreReferences pages l
  pub whole : file ≡ file_of layout_digest pages
  pub restored : new ≡ with_references pages l

-- What is wrong with a file. Head: it doesn't begin with the magic and the version. Layout: it does, but the digest behind them is
-- another. Size: neither, but it hasn't the pages and 32 bytes. Digest: these aren't the SHA-256 of what stands before.
abbrev pub IsFlashFault : LayoutValue → List ℕ → List ℕ → FlashError → Type 0
IsFlashFault l layout_digest file errors.Head = take 6 file ≢ flash_magic
IsFlashFault l layout_digest file errors.Layout = (take 6 file ≡ flash_magic) × (38 ≤ length file) × (take 38 file ≢ head layout_digest)
IsFlashFault l layout_digest file errors.Size =
    (take 6 file ≡ flash_magic) × (38 ≤ length file → take 38 file ≡ head layout_digest) × (HasPages l layout_digest file → ⊥)
IsFlashFault l layout_digest file errors.Digest =
    (found : HasPages l layout_digest file) × (found.digest ≢ sha256 (body_of layout_digest found.pages))

-- Of a file that may be of either digest: it is restored as one of the first, or as one of the other.
abbrev pub IsRestoredByEither : LayoutValue → List ℕ → List ℕ → List ℕ → LayoutValue → Type 0
IsRestoredByEither l layout_digest other file new = IsRestored l layout_digest file new ⊎ IsRestored l other file new

-- of two faults of a file, as one of the first digest and as one of the other, the one that is told: the first, but where it says no more
-- than that the digest is another
abbrev pub fault_to_tell : FlashError → FlashError → FlashError
fault_to_tell errors.Head second = errors.Head
fault_to_tell errors.Layout second = second
fault_to_tell errors.Size second = errors.Size
fault_to_tell errors.Digest second = errors.Digest

-- it is a file of neither, and this is what is wrong with it
pub record IsFaultOfBoth (l : LayoutValue) (layout_digest other file : List ℕ) (e : FlashError) : Type 0 where
  pub first : FlashError
  pub second : FlashError
  pub of_first : IsFlashFault l layout_digest file first
  pub of_other : IsFlashFault l other file second
  pub told : e ≡ fault_to_tell first second
