-- The files that the segments of a configuration name.
use Rattle.std.specs.Prelude.{◌≡◌, ℕ, List, [], ◌∷◌, Option, Some, None, ⊤}
use Rattle.xcp_config.specs.ConfigText.{NamesFiles}
use Rattle.xcp_config.specs.TableLayout.{File}

-- there is a file for each name that is one, or none if it can't be read, and none where no name stands
abbrev pub AreOf : List (Option (List ℕ)) → List File → Type 0
AreOf [] [] = ⊤
AreOf (None ∷ names) (file ∷ files) = (file ≡ None) × AreOf names files
AreOf (Some name ∷ names) (file ∷ files) = AreOf names files
AreOf _ _ = ⊥

-- the files that a text names, by the numbers of its segments
abbrev pub AreNamed : List ℕ → List File → Type 0
AreNamed text files = (names : List (Option (List ℕ))) × NamesFiles text names × AreOf names files
