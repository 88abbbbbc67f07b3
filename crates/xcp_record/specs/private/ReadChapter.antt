-- What is read of a chapter, or of an end mark.
use Rattle.std.specs.Prelude.{◌≡◌, ◌<◌, ◌≤◌, ◌*◌, ℕ, Bool, true, false, List, [], ◌++◌, length, Result, Ok, Err}
use Rattle.sha2.specs.declared.Sha256.{Sha256}
use Rattle.sha2.specs.Hashers.{Holds256}
use Rattle.xcp_record.specs.declared.chapter.ChapterFault.{ChapterFault}
use Rattle.xcp_record.specs.declared.chapter.ChapterFault.TheVariants as faults
use Rattle.xcp_record.specs.declared.fault.AuditFault.{AuditFault}
use Rattle.xcp_record.specs.declared.fault.AuditFault.TheVariants as audits
use Rattle.xcp_record.specs.declared.auditing.Part.{Part}
use Rattle.xcp_record.specs.declared.auditing.Part.TheVariants as parts
use Rattle.xcp_trace.specs.Tape.{spelt}
use Rattle.xcp_record.specs.FileFormat.{chapter_in, ending_in, mark_in, most_call, most_calls, size_in}
use Rattle.xcp_record.specs.JournalFile.{EndsInside, IsChapter, IsNoChapter, IsNoEnd, IsNoPart}

-- what was read of a chapter's parts: its head, its calls' bytes and its digest
abbrev pub ReadsParts : Type 0 → List ℕ → List ℕ → List ℕ → List ℕ → Result (Bool) ChapterFault → Type 0
ReadsParts End first calls digest read (Ok true) = (read ≡ first ++ calls ++ digest) × (length first ≡ 16) × (length calls ≡ size_in first) × (length digest ≡ 32) × (length calls ≤ most_call * most_calls)
ReadsParts End first calls digest read (Ok false) = End × (read ≡ [])
ReadsParts End first calls digest read (Err faults.Cut) = End × (0 < length read) × EndsInside read
ReadsParts End first calls digest read (Err faults.Altered) = (length read ≡ 16) × (most_call * most_calls < size_in read)
ReadsParts End first calls digest read (Err e) = Unit {0}

-- a chapter that stands behind these bytes with this number, and the strings of its calls
pub record IsRead (number : ℕ) (before read calls : List ℕ) (count : ℕ) : Type 0 where
  pub strings : List (List ℕ)
  pub chapter : IsChapter strings
  pub whole : read ≡ chapter_in before number strings
  pub spells : spelt strings ≡ calls
  pub size : length strings ≡ count

-- What comes of a chapter's check: the hasher held the bytes before, and where the chapter stands there, it holds it too.
abbrev pub ChecksChapter : ℕ → List ℕ → List ℕ → List ℕ → Sha256 → Result ℕ ChapterFault → Type 0
ChecksChapter number before read calls hasher (Ok count) = IsRead number before read calls count × Holds256 hasher (before ++ read)
ChecksChapter number before read calls hasher (Err faults.Altered) = IsNoChapter number before read
ChecksChapter number before read calls hasher (Err faults.Memory) = Unit {0}
ChecksChapter number before read calls hasher (Err e) = ⊥

-- What comes of an end mark's check behind these bytes, which have n calls.
abbrev pub ChecksMark : ℕ → List ℕ → List ℕ → Result (Unit {0}) ChapterFault → Type 0
ChecksMark n before read (Ok done) = read ≡ mark_in before n
ChecksMark n before read (Err faults.Altered) = IsNoEnd n before read
ChecksMark n before read (Err faults.Memory) = Unit {0}
ChecksMark n before read (Err e) = ⊥

-- What comes of an end mark: it ends the file, or what stands there in its place.
abbrev pub ReadsMark : ℕ → List ℕ → Type 0 → List ℕ → Result (Unit {0}) ChapterFault → Type 0
ReadsMark n before End read (Ok done) = End × (read ≡ mark_in before n)
ReadsMark n before End read (Err faults.Altered) = IsNoEnd n before read
ReadsMark n before End read (Err faults.Cut) = ⊥
ReadsMark n before End read (Err e) = Unit {0}

-- What comes of the next part behind so many chapters and n calls: a chapter stands there, or the file ends there, or what stands there
-- in their place.
abbrev pub ReadsNextPart : ℕ → ℕ → List ℕ → Type 0 → List ℕ → List ℕ → Sha256 → Result Part ChapterFault → Type 0
ReadsNextPart number n before End read calls hasher (Ok (parts.Chapter count)) = IsRead number before read calls count × Holds256 hasher (before ++ read)
ReadsNextPart number n before End read calls hasher (Ok (parts.End ending)) = End × (read ≡ ending_in before n ending)
ReadsNextPart number n before End read calls hasher (Err faults.Cut) = End × (0 < length read) × EndsInside read
ReadsNextPart number n before End read calls hasher (Err faults.Altered) = IsNoPart n number before read
ReadsNextPart number n before End read calls hasher (Err e) = Unit {0}

-- why an audit ends after so many calls
abbrev pub fault_after : ℕ → ChapterFault → AuditFault
fault_after n faults.Read = audits.Read
fault_after n faults.Memory = audits.Memory
fault_after n faults.Cut = audits.Cut n
fault_after n faults.Altered = audits.Altered n
