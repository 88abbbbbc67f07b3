-- What a C program opens.
use Rattle.std.specs.Str.{IsUtf8}
use Rattle.std.specs.Prelude.{◌≡◌, ◌⊎◌, ◌≤◌, ◌<◌, ℕ, List, [], ◌∷◌, ◌++◌, length, Option, Some, None}
use Rattle.sha2.specs.Sha256.{sha256}
use Rattle.xcp_bank.specs.BankId.{image_bytes}
use Rattle.xcp_bank.specs.BankEnds.{ReaderEnd, new_writer, six_readers}
use Rattle.xcp_controller.specs.ControllerValue.{image_of}
use Rattle.xcp_config.specs.ConfigText.{HasFaultWith, HasLayoutWith, IsNoDocument}
use Rattle.xcp_config.specs.FaultNumbers.{number_of}
use Rattle.xcp_config.specs.TableLayout.{File}
use Rattle.xcp_config.specs.declared.config_error.ConfigError.{ConfigError}
use Rattle.xcp_flash.specs.Decided.{pages_decided}
use Rattle.xcp_flash.specs.FlashFile.{file_of}
use Rattle.xcp_flash.specs.References.{AreReferences, with_references}
use Rattle.xcp_flash.specs.Restoring.{IsFaultOfBoth, IsRestoredByEither}
use Rattle.xcp_flash.specs.declared.fault.FlashError.{FlashError}
use Rattle.xcp_memory.specs.EcuImage.{image_size}
use Rattle.xcp_memory.specs.Layout.{LayoutValue}
use Rattle.xcp_slave.specs.SlaveValue.{layout_of, opening}
use Rattle.xcp_c.specs.Held.{IsOpen}
use Rattle.xcp_c.specs.OpenValue.{OpenValue}
use Rattle.xcp_c.specs.StoredPages.{number_of_stored}

-- What an opening by something with this SHA-256 gives: a slave with this layout at its opening, whose image is
-- published, and six readers to be taken, which hold nothing.
pub record IsOpeningBy (digest : List ℕ) (l : LayoutValue) (slave : Option OpenValue) : Type 0 where
  pub value : OpenValue
  pub is : slave ≡ Some value
  pub opened : value.controller.slave ≡ opening l
  pub size : image_bytes value.controller.writer.bank ≡ image_size l
  pub writer : value.controller.writer ≡ new_writer value.controller.writer.bank (image_of (opening l))
  pub six : value.controller.spare ≡ six_readers value.controller.writer.bank (image_of (opening l))
  pub digested : value.digest ≡ digest

-- the same by what decides which stored pages are those of this layout of its own: l is it, or the same with stored pages
abbrev pub IsOpening : LayoutValue → LayoutValue → Option OpenValue → Type 0
IsOpening own l slave = IsOpeningBy (sha256 (pages_decided own)) l slave

-- UTF-8 of at most 65,536 bytes
abbrev pub IsLayoutText : List ℕ → Type 0
IsLayoutText text = (length text ≤ 65536) × IsUtf8 text

-- what is no such text, and the number of that fault: 16 where there are more bytes, and else 8
abbrev pub IsTextFault : List ℕ → ℕ → Type 0
IsTextFault text n = ((65536 < length text) × (n ≡ 16)) ⊎ ((length text ≤ 65536) × (¬ IsUtf8 text) × (n ≡ 8))

-- of a text whose segments have these files: 1 where it is no document, and then the number of the fault that it has; or 7 where an
-- allocation failed
abbrev pub IsFaultIn : List File → List ℕ → ℕ → Type 0
IsFaultIn files text n = (IsNoDocument text × (n ≡ 1)) ⊎ ((e : ConfigError) × HasFaultWith files text e × (n ≡ number_of e)) ⊎ (n ≡ 7)

-- the number of a fault of this text, whose segments have these files
abbrev pub IsOpeningFault : List File → List ℕ → ℕ → Type 0
IsOpeningFault files text n = IsTextFault text n ⊎ (IsLayoutText text × IsFaultIn files text n)

-- the text describes a layout with these files, and the slave is that of its opening
abbrev pub IsOpenedBy : List File → List ℕ → Option OpenValue → Type 0
IsOpenedBy files text slave = (l : LayoutValue) × IsLayoutText text × HasLayoutWith files text l × IsOpening l l slave

-- Opening by this text and these files: the handle owned a slave, 10, and is as it was; or it owned nothing, the text describes a layout,
-- and the slave is that of its opening; or this is the number of the text's fault, and it still owns nothing.
abbrev pub OpensWith : List File → List ℕ → ℕ → Option OpenValue → Option OpenValue → Type 0
OpensWith files text n old new =
    (IsOpen old × (n ≡ 10) × (new ≡ old))
    ⊎ ((old ≡ None) × (((n ≡ 0) × IsOpenedBy files text new) ⊎ (IsOpeningFault files text n × (new ≡ None))))

-- Where a text describes a layout with these files, a slave of it is opened, or there is no memory: no other fault is told.
abbrev pub TellsTextWith : List File → List ℕ → ℕ → Option OpenValue → Type 0
TellsTextWith files text n new = (l : LayoutValue) → IsLayoutText text → HasLayoutWith files text l → (n ≡ 7) ⊎ ((n ≡ 0) × IsOpening l l new)

-- the same of a text alone, with no files
abbrev pub IsFaultOf : List ℕ → ℕ → Type 0
IsFaultOf text n = IsOpeningFault [] text n

abbrev pub IsOpened : List ℕ → Option OpenValue → Type 0
IsOpened text slave = IsOpenedBy [] text slave

abbrev pub OpensBy : List ℕ → ℕ → Option OpenValue → Option OpenValue → Type 0
OpensBy text n old new = OpensWith [] text n old new

abbrev pub TellsText : List ℕ → ℕ → Option OpenValue → Type 0
TellsText text n new = TellsTextWith [] text n new

-- The file is one of this layout's stored pages, by what decides which are its, or, of a file of before, by the text: the slave is that of
-- the layout's opening with the file's pages as reference pages.
abbrev pub IsRestoredOf : LayoutValue → List ℕ → List ℕ → Option OpenValue → Type 0
IsRestoredOf l text file slave =
    (with_pages : LayoutValue) × IsRestoredByEither l (sha256 (pages_decided l)) (sha256 text) file with_pages × IsOpening l with_pages slave

-- this is the number of the file's fault beside this layout
abbrev pub IsFaultBeside : LayoutValue → List ℕ → List ℕ → ℕ → Type 0
IsFaultBeside l text file n =
    (e : FlashError) × IsFaultOfBoth l (sha256 (pages_decided l)) (sha256 text) file e × (n ≡ number_of_stored e)

-- the file has these pages of this layout, by what decides which are its, or by the text
abbrev pub IsStoredFile : LayoutValue → List ℕ → List ℕ → List (List ℕ) → Type 0
IsStoredFile l text file pages = (file ≡ file_of (sha256 (pages_decided l)) pages) ⊎ (file ≡ file_of (sha256 text) pages)

-- By the file of pages of this layout's sizes a slave is opened with these, and a fault of the file is the one that is told; or there is
-- no memory.
abbrev pub TellsPages : LayoutValue → List ℕ → List ℕ → ℕ → Option OpenValue → Type 0
TellsPages l text file n new =
    ((pages : List (List ℕ)) → AreReferences pages l → IsStoredFile l text file pages → (n ≡ 7) ⊎ ((n ≡ 0) × IsOpening l (with_references pages l) new))
    × ((e : FlashError) → IsFaultOfBoth l (sha256 (pages_decided l)) (sha256 text) file e → (n ≡ 7) ⊎ (n ≡ number_of_stored e))

-- the text describes a layout with these files, and the slave is that of its opening with the stored pages of this file
abbrev pub IsRestoredBy : List File → List ℕ → List ℕ → Option OpenValue → Type 0
IsRestoredBy files text file slave = (l : LayoutValue) × IsLayoutText text × HasLayoutWith files text l × IsRestoredOf l text file slave

-- the text describes a layout with these files, and this is the number of the fault of the file of stored pages
abbrev pub IsFaultOfPages : List File → List ℕ → List ℕ → ℕ → Type 0
IsFaultOfPages files text file n = (l : LayoutValue) × IsLayoutText text × HasLayoutWith files text l × IsFaultBeside l text file n

-- where a text describes a layout with these files, the file of stored pages is told of so
abbrev pub TellsPagesWith : List File → List ℕ → List ℕ → ℕ → Option OpenValue → Type 0
TellsPagesWith files text file n new = (l : LayoutValue) → IsLayoutText text → HasLayoutWith files text l → TellsPages l text file n new

-- the same of a text alone
abbrev pub IsOpenedWith : List ℕ → List ℕ → Option OpenValue → Type 0
IsOpenedWith text file slave = IsRestoredBy [] text file slave

abbrev pub IsFaultOfFile : List ℕ → List ℕ → ℕ → Type 0
IsFaultOfFile text file n = IsFaultOfPages [] text file n

-- The same by this text and this file of stored pages, whose faults come behind the text's.
abbrev pub OpensStored : List ℕ → List ℕ → ℕ → Option OpenValue → Option OpenValue → Type 0
OpensStored text file n old new =
    (IsOpen old × (n ≡ 10) × (new ≡ old))
    ⊎ ((old ≡ None) × (
    ((n ≡ 0) × IsOpenedWith text file new)
    ⊎ ((IsFaultOf text n ⊎ IsFaultOfFile text file n) × (new ≡ None))))

abbrev pub TellsFile : List ℕ → List ℕ → ℕ → Option OpenValue → Type 0
TellsFile text file n new = TellsPagesWith [] text file n new

-- This reader of the slave's images, which nobody had taken, is taken, and the slave is as it was.
pub record Takes (old new : Option OpenValue) (taken : ReaderEnd) : Type 0 where
  pub before : OpenValue
  pub after : OpenValue
  pub was : old ≡ Some before
  pub is : new ≡ Some after
  pub from : before.controller.spare ≡ after.controller.spare ++ taken ∷ []
  pub size : image_bytes taken.bank ≡ image_size (layout_of before.controller.slave)
  pub same : (after.controller.slave ≡ before.controller.slave) × (after.controller.writer ≡ before.controller.writer) × (after.digest ≡ before.digest)

-- a slave, each of whose readers was taken
abbrev pub HasNone : Option OpenValue → Type 0
HasNone o = (v : OpenValue) × (o ≡ Some v) × (v.controller.spare ≡ [])

-- Opening a reader: one that nobody had taken is taken; or it is refused, and both handles are as they were: 9 where all are
-- taken, 10 where the reader's handle owned one, 11 where the slave's owned none.
abbrev pub OpensReader : ℕ → Option OpenValue → Option OpenValue → Option ReaderEnd → Option ReaderEnd → Type 0
OpensReader n old new reader opened =
    ((n ≡ 0) × (reader ≡ None) × (r : ReaderEnd) × Takes old new r × (opened ≡ Some r))
    ⊎ ((((n ≡ 9) × HasNone old) ⊎ ((n ≡ 10) × IsOpen reader) ⊎ ((n ≡ 11) × (old ≡ None))) × (new ≡ old) × (opened ≡ reader))
