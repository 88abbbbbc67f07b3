-- What a recorder has written.
use Rattle.std.specs.Prelude.{◌≡◌, ℕ, List, length, Option}
use Rattle.std.specs.Io.KnownBytes.{Appends}
use Rattle.sha2.specs.declared.Sha256.{Sha256}
use Rattle.sha2.specs.Hashers.{Holds256}
use Rattle.xcp_trace.specs.declared.Entry.{Entry}
use Rattle.xcp_framing.specs.Prefix.{AppendsFront}
use Rattle.xcp_record.specs.declared.ending.FileEnding.TheVariants.{Ended}
use Rattle.xcp_record.specs.declared.roster.Roster.{Roster}
use Rattle.xcp_record.specs.FileFormat.{chapter_in, mark_in}
use Rattle.xcp_record.specs.JournalFile.{IsFile, IsWholeFile, calls_of}

-- The bytes behind those of the start are a whole file of this roster and layout with these chapters; the hasher holds them.
pub record Records (roster : Option Roster) (layout : List ℕ) (start now : Option (List ℕ)) (hasher : Sha256) (count calls : ℕ) (chapters : List (List Entry)) : Type 0 where
  pub bytes : List ℕ
  pub file : IsFile roster layout bytes chapters
  pub grown : Appends start now bytes
  pub held : Holds256 hasher bytes
  pub counted : count ≡ length chapters
  pub called : calls ≡ length (calls_of chapters)

-- Behind the start stands a file with these chapters, and of the next chapter's bytes a front.
pub record StopsInside (roster : Option Roster) (layout : List ℕ) (start now : Option (List ℕ)) (chapters : List (List Entry)) : Type 0 where
  pub bytes : List ℕ
  pub file : IsFile roster layout bytes chapters
  pub between : Option (List ℕ)
  pub grown : Appends start between bytes
  pub strings : List (List ℕ)
  pub front : AppendsFront between now (chapter_in bytes (length chapters) strings)

-- The bytes behind those of the start are a whole file of this roster and layout with these chapters, and the end mark ends it.
pub record EndsInOrder (roster : Option Roster) (layout : List ℕ) (start now : Option (List ℕ)) (chapters : List (List Entry)) : Type 0 where
  pub bytes : List ℕ
  pub file : IsWholeFile roster layout bytes chapters Ended
  pub grown : Appends start now bytes

-- Behind the start stands a file with these chapters, and of the end mark's bytes a front.
pub record StopsInMark (roster : Option Roster) (layout : List ℕ) (start now : Option (List ℕ)) (chapters : List (List Entry)) : Type 0 where
  pub bytes : List ℕ
  pub file : IsFile roster layout bytes chapters
  pub between : Option (List ℕ)
  pub grown : Appends start between bytes
  pub front : AppendsFront between now (mark_in bytes (length (calls_of chapters)))
