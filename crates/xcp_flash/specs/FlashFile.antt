-- The bytes of a file of stored pages: a head, then each page behind its length, and a digest of all that stands before it.
use Rattle.std.specs.Prelude.{ℕ, ◌+◌, List, [], ◌∷◌, ◌++◌, length}
use Rattle.std.specs.Int.{w32, to_le_bytes}
use Rattle.std.specs.List.{flat_map}
use Rattle.sha2.specs.Sha256.{sha256}

-- XCPF, and the version, 1, its low byte first
abbrev pub flash_magic : List ℕ
flash_magic = 0x58 ∷ 0x43 ∷ 0x50 ∷ 0x46 ∷ 1 ∷ 0 ∷ []

-- the head, where this is the SHA-256 of the layout file's bytes
unfoldable pub head : List ℕ → List ℕ
head layout_digest = flash_magic ++ layout_digest

-- a page: its length, the low byte first, and its bytes
unfoldable pub page_in : List ℕ → List ℕ
page_in page = to_le_bytes w32 (length page) ++ page

-- the head, and the pages behind it
unfoldable pub body_of : List ℕ → List (List ℕ) → List ℕ
body_of layout_digest pages = head layout_digest ++ flat_map page_in pages

-- the file: these, and their SHA-256
unfoldable pub file_of : List ℕ → List (List ℕ) → List ℕ
file_of layout_digest pages = body_of layout_digest pages ++ sha256 (body_of layout_digest pages)

-- how many bytes pages of these lengths take in a file
abbrev pub pages_size : List ℕ → ℕ
pages_size [] = 0
pages_size (n ∷ lengths) = (4 + n) + pages_size lengths

-- how many bytes the file of pages of these lengths has: 38 of the head, and 32 of the digest
abbrev pub file_size : List ℕ → ℕ
file_size lengths = 70 + pages_size lengths
