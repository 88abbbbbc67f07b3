-- Opening by a text whose segments name files, and the bytes of these.
use Rattle.std.specs.Prelude.{◌≡◌, ◌⊎◌, ℕ, List, length, sum, Option, None}
use Rattle.xcp_config.specs.TableLayout.{File}
use Rattle.xcp_c.specs.GivenFiles.{AreGiven, AreOther}
use Rattle.xcp_c.specs.Held.{IsOpen}
use Rattle.xcp_c.specs.OpenValue.{OpenValue}
use Rattle.xcp_c.specs.Openings.{IsFaultIn, IsFaultOfPages, IsTextFault, IsOpenedBy, IsRestoredBy, IsLayoutText, TellsPagesWith, TellsTextWith}

-- The number of a fault of this text, or of the sizes and the bytes of the files that it names: 16 or 8 as of any text; then 18 where these
-- are others than its files have; and then that of the text with these files; or 7 where an allocation failed.
abbrev pub IsFaultOfData : List ℕ → List ℕ → List ℕ → ℕ → Type 0
IsFaultOfData text sizes bytes n =
    IsTextFault text n
    ⊎ (IsLayoutText text × AreOther text sizes bytes × (n ≡ 18))
    ⊎ (IsLayoutText text × (sum sizes ≡ length bytes) × (n ≡ 7))
    ⊎ ((files : List File) × IsLayoutText text × AreGiven text sizes bytes files × IsFaultIn files text n)

-- the files that the text names are given, with which it describes a layout, and the slave is that of its opening
abbrev pub IsOpenedByData : List ℕ → List ℕ → List ℕ → Option OpenValue → Type 0
IsOpenedByData text sizes bytes slave = (files : List File) × AreGiven text sizes bytes files × IsOpenedBy files text slave

-- Opening by a text and its files: the handle owned a slave, 10, and is as it was; or it owned nothing, the text describes a layout with the
-- files that are given, and the slave is that of its opening; or this is the number of the fault, and it still owns nothing.
abbrev pub OpensByData : List ℕ → List ℕ → List ℕ → ℕ → Option OpenValue → Option OpenValue → Type 0
OpensByData text sizes bytes n old new =
    (IsOpen old × (n ≡ 10) × (new ≡ old))
    ⊎ ((old ≡ None) × (((n ≡ 0) × IsOpenedByData text sizes bytes new) ⊎ (IsFaultOfData text sizes bytes n × (new ≡ None))))

-- Where sizes and bytes are others than the files of the text have, 18 is told, and nowhere else; but 7 where memory is wanting.
pub record TellsOther (text sizes bytes : List ℕ) (n : ℕ) : Type 0 where
  pub other : IsLayoutText text → AreOther text sizes bytes → (n ≡ 18) ⊎ ((sum sizes ≡ length bytes) × (n ≡ 7))
  pub only : n ≡ 18 → IsLayoutText text × AreOther text sizes bytes

-- with the files that are given, where it describes a layout, a slave of it is opened, or there is no memory
abbrev pub TellsData : List ℕ → List ℕ → List ℕ → ℕ → Option OpenValue → Type 0
TellsData text sizes bytes n new =
    TellsOther text sizes bytes n × ((files : List File) → AreGiven text sizes bytes files → TellsTextWith files text n new)

-- the same with the stored pages of this file
abbrev pub IsRestoredByData : List ℕ → List ℕ → List ℕ → List ℕ → Option OpenValue → Type 0
IsRestoredByData text sizes bytes file slave = (files : List File) × AreGiven text sizes bytes files × IsRestoredBy files text file slave

-- the text describes a layout with the files that are given, and this is the number of the fault of the file of stored pages
abbrev pub IsFaultOfDataPages : List ℕ → List ℕ → List ℕ → List ℕ → ℕ → Type 0
IsFaultOfDataPages text sizes bytes file n = (files : List File) × AreGiven text sizes bytes files × IsFaultOfPages files text file n

-- Opening by a text, its files and a file of stored pages, whose faults come behind all others.
abbrev pub OpensDataStored : List ℕ → List ℕ → List ℕ → List ℕ → ℕ → Option OpenValue → Option OpenValue → Type 0
OpensDataStored text sizes bytes file n old new =
    (IsOpen old × (n ≡ 10) × (new ≡ old))
    ⊎ ((old ≡ None) × (
    ((n ≡ 0) × IsRestoredByData text sizes bytes file new)
    ⊎ ((IsFaultOfData text sizes bytes n ⊎ IsFaultOfDataPages text sizes bytes file n) × (new ≡ None))))

-- with the files that are given, where it describes a layout, the file of stored pages is told of
abbrev pub TellsDataPages : List ℕ → List ℕ → List ℕ → List ℕ → ℕ → Option OpenValue → Type 0
TellsDataPages text sizes bytes file n new =
    TellsOther text sizes bytes n × ((files : List File) → AreGiven text sizes bytes files → TellsPagesWith files text file n new)
