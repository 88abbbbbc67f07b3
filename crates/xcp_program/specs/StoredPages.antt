-- The file of stored pages.
use Rattle.std.specs.Prelude.{◌≡◌, ◌≢◌, ◌≤◌, ◌⊎◌, ℕ, map, Bool, true, false, List, ◌∷◌, ◌++◌, ◌==◌, codes, if◌then◌else◌, length, Option, Some, None, Result, Ok, Err}
use Rattle.std.specs.IoError.{error_kind}
use Rattle.std.specs.Str.{NoCharPasses}
use Rattle.std.specs.declared.io.Error.{Error}
use Rattle.std.specs.declared.io.ErrorKind.TheVariants.{NotFound}
use Rattle.std.specs.declared.fs.TryLockError.{TryLockError}
use Rattle.std.specs.declared.fs.TryLockError.TheVariants.{WouldBlock}
use Rattle.xcp_memory.specs.Layout.{IsLayout, LayoutValue}
use Rattle.xcp_flash.specs.FlashFile.{file_size}
use Rattle.xcp_flash.specs.References.{AreReferences}
use Rattle.xcp_program.specs.declared.fault.Fault.{Fault}
use Rattle.xcp_program.specs.declared.fault.Fault.TheVariants.{Flash}

-- What opening the file gave, and what is answered: the file, if it is there; none, where it isn't there and isn't wanted; and else a fault.
abbrev pub IsAnswered : {T : Type 0} → Result T Error → Bool → Result (Option T) Fault → Type 0
IsAnswered (Ok file) wanted answer = answer ≡ Ok (Some file)
IsAnswered (Err e) wanted answer =
    ((error_kind e ≡ NotFound) × (wanted ≡ false) × (answer ≡ Ok None))
    ⊎ (((error_kind e ≢ NotFound) ⊎ (wanted ≡ true)) × (answer ≡ Err (Flash 1)))

-- Of no layout does the file of its pages have more bytes than are read. It is a law: the contract of a public function of src/law.rt.
abbrev pub EachFileIsRead : Type 0
EachFileIsRead = (pages : List (List ℕ)) (l : LayoutValue) → IsLayout l → AreReferences pages l → file_size (map (λ page. length page) pages) ≤ 1048710

-- the code of a slash
abbrev pub slash : ℕ
slash = 47

-- no character of the text is a slash
abbrev pub HasNoSlash : List ℕ → Type 0
HasNoSlash text = NoCharPasses (λ c. c == slash) text

-- the folder that has this text before its last slash: that of the root has none
abbrev pub folder_before : List ℕ → List ℕ
folder_before front = if length front == 0 then codes "/" else front

-- The folder in which a file of this name lies: the one that stands before the last slash, and where there is none the one that the
-- program runs in.
abbrev pub IsFolderOf : List ℕ → List ℕ → Type 0
IsFolderOf path folder =
    (HasNoSlash path × (folder ≡ codes "."))
    ⊎ ((front : List ℕ) × (name : List ℕ) × (path ≡ front ++ slash ∷ name) × HasNoSlash name × (folder ≡ folder_before front))

-- another program has the lock
abbrev pub refused_second : Result (Unit {0}) TryLockError → Result (Unit {0}) Fault
refused_second (Err WouldBlock) = Err (Flash 3)
refused_second locked = Ok tt
