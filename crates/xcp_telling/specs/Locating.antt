-- What is told of a layout file's fault, by the lines of a check.
use Rattle.std.specs.Prelude.{◌≡◌, ◌≢◌, ◌⊎◌, ℕ, true, List, [], ◌∷◌, ◌++◌, codes}
use Rattle.std.specs.List.{All, AllZip, flat_map, list_all}
use Rattle.std.specs.Str.Iter.{LacksByte}
use Rattle.std.specs.Fmt.{decimal}
use Rattle.xcp_memory.specs.Limits.{is_printable}

-- the code of a line feed
abbrev pub line_feed : ℕ
line_feed = 10

-- the first line has this head, and these words behind it and a colon
abbrev pub IsFirstLine : List ℕ → List ℕ → List ℕ → Type 0
IsFirstLine head lines words = (line : List ℕ) × (more : List ℕ) × (lines ≡ line ++ (line_feed ∷ more)) × (line ≡ head ++ (codes ": " ++ words))

-- the last line, or the only one, has these words
abbrev pub IsLastLine : List ℕ → List ℕ → Type 0
IsLastLine lines words = (text : List ℕ) × (lines ≡ text ++ (line_feed ∷ [])) × ((text ≡ words) ⊎ ((before : List ℕ) × (text ≡ before ++ (line_feed ∷ words))))

-- the fault of a layout file that asks for an A2L file, if none can be made
abbrev pub no_a2l : ℕ
no_a2l = 7

-- the words of a check on the fault of this number: of that one the last line, which an entry has that is refused, and of any other what
-- stands behind the number in the first line
abbrev pub IsWordsOn : ℕ → List ℕ → List ℕ → Type 0
IsWordsOn number lines words =
    ((number ≡ no_a2l) × IsLastLine lines words)
    ⊎ ((number ≢ no_a2l) × IsFirstLine (codes "configuration " ++ decimal number) lines words)

-- where a table lies: the name of an entry, in printable characters, or nothing, and the line at which the table begins
abbrev pub IsPlace : List ℕ → Type 0
IsPlace place = (name : List ℕ) × (line : ℕ) × (list_all is_printable name ≡ true) × (place ≡ name ++ (codes " (line " ++ (decimal line ++ codes ")")))

-- what is told are these words, as they are, or with such a place put in before a colon
abbrev pub IsLocated : List ℕ → List ℕ → Type 0
IsLocated words told =
    (told ≡ words)
    ⊎ ((front : List ℕ) × (place : List ℕ) × (rest : List ℕ) × IsPlace place
    × (words ≡ front ++ (codes ": " ++ rest)) × (told ≡ front ++ (place ++ (codes ": " ++ rest))))

-- lines, each with its line feed
abbrev pub ended_lines : List ℕ → List ℕ
ended_lines line = line ++ (line_feed ∷ [])

-- What is told are the lines of a text, one for one and in order, each located. What stands behind the last line feed is told as it is.
pub record AreLocated (text told : List ℕ) : Type 0 where
  pub lines : List (List ℕ)
  pub others : List (List ℕ)
  pub rest : List ℕ
  pub apart : All (LacksByte line_feed) lines
  pub each : AllZip IsLocated lines others
  pub cut : text ≡ flat_map ended_lines lines ++ rest
  pub joined : told ≡ flat_map ended_lines others ++ rest
