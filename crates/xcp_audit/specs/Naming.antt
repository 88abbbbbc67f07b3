-- How a journal's file names the layout that it is of.
use Rattle.std.specs.Prelude.{◌≡◌, ◌≢◌, ◌<◌, ◌⊎◌, ℕ, List, Option, drop, length, take}
use Rattle.std.specs.Io.KnownBytes.{IsAtEnd}
use Rattle.sha2.specs.Sha256.{sha256}
use Rattle.xcp_memory.specs.Layout.{LayoutValue}
use Rattle.xcp_program.specs.Decided.{answers_decided}

-- The head of a file that has these bytes left behind it: 38 bytes, or fewer, which are all.
abbrev pub IsHeadBefore : List ℕ → Option (List ℕ) → Type 0
IsHeadBefore head left = (length head ≡ 38) ⊎ ((length head < 38) × IsAtEnd left)

-- the 32 bytes by which a file names its layout, behind the six of its magic and its version
abbrev pub named_in : List ℕ → List ℕ
named_in bytes = take 32 (drop 6 bytes)

-- A file of this layout names one of these: the SHA-256 of what decides the layout's answers, or that of the text of its layout file, as files
-- of earlier versions of the program do.
abbrev pub NamesLayout : List ℕ → LayoutValue → List ℕ → Type 0
NamesLayout config layout digest = (digest ≡ sha256 (answers_decided layout)) ⊎ (digest ≡ sha256 config)

-- By this a file is audited that names this: by the SHA-256 of the text where it names that, and else by that of what decides the answers.
abbrev pub IsReadBy : List ℕ → LayoutValue → List ℕ → List ℕ → Type 0
IsReadBy config layout named digest =
    ((named ≡ sha256 config) × (digest ≡ sha256 config)) ⊎ ((named ≢ sha256 config) × (digest ≡ sha256 (answers_decided layout)))
