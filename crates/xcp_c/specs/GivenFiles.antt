-- The files that the segments of a text name, as a C program hands them over: their bytes, one file behind the other, and how many each has.
use Rattle.std.specs.Prelude.{◌≡◌, ◌≢◌, ◌⊎◌, ◌<◌, ◌≤◌, ℕ, List, [], ◌∷◌, length, take, drop, sum, count_by, is_some, Option, Some, None}
use Rattle.xcp_config.specs.ConfigText.{NamesFiles}
use Rattle.xcp_config.specs.TableLayout.{File}

-- the file that each segment names, if it names one
abbrev pub FileNames : Type 0
FileNames = List (Option (List ℕ))

-- how many segments name a file
abbrev pub named_count : FileNames → ℕ
named_count names = count_by (λ name. is_some name) names

-- The files by the segments' numbers: a segment that names one has as many of the bytes as the next size says, and one that names none has
-- none; where no size is left, one that names a file has none either.
abbrev pub files_given : FileNames → List ℕ → List ℕ → List File
files_given [] sizes bytes = []
files_given (None ∷ names) sizes bytes = None ∷ files_given names sizes bytes
files_given (Some name ∷ names) [] bytes = None ∷ files_given names [] bytes
files_given (Some name ∷ names) (size ∷ sizes) bytes = Some (take size bytes) ∷ files_given names sizes (drop size bytes)

-- These files are given for those that a text names: the sizes sum up to all bytes, and there are at most as many as segments that name one.
pub record AreGiven (text sizes bytes : List ℕ) (files : List File) : Type 0 where
  pub names : FileNames
  pub named : NamesFiles text names
  pub all : sum sizes ≡ length bytes
  pub most : length sizes ≤ named_count names
  pub are : files ≡ files_given names sizes bytes

-- the sizes sum up to more or fewer bytes, or there are more of them than segments that name a file
abbrev pub AreOther : List ℕ → List ℕ → List ℕ → Type 0
AreOther text sizes bytes =
    (sum sizes ≢ length bytes) ⊎ ((names : FileNames) × NamesFiles text names × (named_count names < length sizes))
