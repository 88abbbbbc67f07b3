-- The bytes of a journal's file: a head, then chapter after chapter, each with a digest of all that stands before it, and an end mark, if
-- the file has one.
use Rattle.std.specs.Prelude.{ℕ, suc, List, [], ◌∷◌, ◌++◌, length, Option, Some, None, slice_index}
use Rattle.std.specs.Int.{w32, w64, to_le_bytes, from_le_bytes}
use Rattle.sha2.specs.Sha256.{sha256}
use Rattle.xcp_trace.specs.Tape.{spelt}
use Rattle.xcp_record.specs.declared.ending.FileEnding.{FileEnding}
use Rattle.xcp_record.specs.declared.ending.FileEnding.TheVariants as endings
use Rattle.xcp_record.specs.declared.roster.Roster.{Roster}

-- XCPJ, and the version, its low byte first
abbrev pub journal_magic : ℕ → List ℕ
journal_magic version = 0x58 ∷ 0x43 ∷ 0x50 ∷ 0x4A ∷ version ∷ 0 ∷ []

-- the four bytes of a roster
abbrev pub roster_bytes : Roster → List ℕ
roster_bytes roster = roster.tools ∷ roster.tasks ∷ roster.pumps ∷ roster.clocks ∷ []

-- The head, where this is the SHA-256 of the layout file's bytes: of version 1, which says nothing of the callers, or of version 2, with
-- their roster.
unfoldable pub head : Option Roster → List ℕ → List ℕ
head None layout = journal_magic 1 ++ layout
head (Some roster) layout = journal_magic 2 ++ layout ++ roster_bytes roster

-- a chapter's first 16 bytes: its number, its number of calls, and the length of their bytes, each with its low byte first
unfoldable pub chapter_head : ℕ → ℕ → ℕ → List ℕ
chapter_head number count size = to_le_bytes w64 number ++ to_le_bytes w32 count ++ to_le_bytes w32 size

-- a chapter's bytes but for its digest: its calls are strings of a tape
abbrev pub chapter_bytes : ℕ → List (List ℕ) → List ℕ
chapter_bytes number calls = chapter_head number (length calls) (length (spelt calls)) ++ spelt calls

-- what a chapter adds to a file of these bytes: its own, and the SHA-256 of all before it in the file
abbrev pub chapter_in : List ℕ → ℕ → List (List ℕ) → List ℕ
chapter_in before number calls = chapter_bytes number calls ++ sha256 (before ++ chapter_bytes number calls)

-- the bytes with these chapters behind them, numbered on from this number
abbrev pub with_chapters : List ℕ → ℕ → List (List (List ℕ)) → List ℕ
with_chapters before number [] = before
with_chapters before number (calls ∷ chapters) = with_chapters (before ++ chapter_in before number calls) (suc number) chapters

-- the file of chapters that are numbered from 0
abbrev pub file_of : Option Roster → List ℕ → List (List (List ℕ)) → List ℕ
file_of roster layout chapters = with_chapters (head roster layout) 0 chapters

-- what stands at the beginning of an end mark where a chapter's number would: no chapter has it
abbrev pub no_chapter : ℕ
no_chapter = 18446744073709551615

-- An end mark is formed as a chapter without calls is, but that 8 bytes stand where its calls' bytes would: the number of all calls of
-- the file, with its low byte first.
abbrev pub mark_head : List ℕ
mark_head = chapter_head no_chapter 0 8

abbrev pub mark_bytes : ℕ → List ℕ
mark_bytes calls = mark_head ++ to_le_bytes w64 calls

-- what an end mark adds to a file of these bytes and so many calls: its own, and the SHA-256 of all before it in the file
abbrev pub mark_in : List ℕ → ℕ → List ℕ
mark_in before calls = mark_bytes calls ++ sha256 (before ++ mark_bytes calls)

-- what an ending adds
abbrev pub ending_in : List ℕ → ℕ → FileEnding → List ℕ
ending_in before calls endings.Ended = mark_in before calls
ending_in before calls endings.Open = []

-- the length of the calls' bytes, as a chapter's head says it
unfoldable pub size_in : List ℕ → ℕ
size_in bytes = from_le_bytes w32 (slice_index bytes 12 ∷ slice_index bytes 13 ∷ slice_index bytes 14 ∷ slice_index bytes 15 ∷ [])

-- the most calls of a chapter, and the most bytes of a call with its length
abbrev pub most_calls : ℕ
most_calls = 65536

abbrev pub most_call : ℕ
most_call = 519

-- the number of the last chapter that there can be
abbrev pub last_chapter : ℕ
last_chapter = 4294967295
