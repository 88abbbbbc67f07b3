-- The chapters that a journal's file has, and its ending.
use Rattle.std.specs.Prelude.{◌≡◌, ◌≤◌, ◌<◌, ◌⊎◌, ◌+◌, ℕ, List, ◌++◌, length, map, Option}
use Rattle.std.specs.List.{AllByRecursion, flat_map}
use Rattle.xcp_slave.specs.declared.Exchange.{Exchange}
use Rattle.xcp_trace.specs.declared.Entry.{Entry}
use Rattle.xcp_trace.specs.EntrySpelling.{IsEntryString, entry_in}
use mathlib.Core.List.{IsPrefix}
use Rattle.xcp_record.specs.declared.ending.FileEnding.{FileEnding}
use Rattle.xcp_record.specs.declared.roster.Roster.{Roster}
use Rattle.xcp_record.specs.FileFormat.{chapter_in, ending_in, file_of, mark_in, most_calls, size_in}

-- the strings of a chapter: each spells a call
pub record IsChapter (strings : List (List ℕ)) : Type 0 where
  pub each : AllByRecursion IsEntryString strings
  pub few : length strings ≤ most_calls

-- The bytes are a whole file of this layout without an end mark, with this roster of its callers or none, and these are its chapters' calls.
pub record IsFile (roster : Option Roster) (layout bytes : List ℕ) (chapters : List (List Entry)) : Type 0 where
  pub strings : List (List (List ℕ))
  pub whole : bytes ≡ file_of roster layout strings
  pub each : AllByRecursion IsChapter strings
  pub calls : map (λ chapter. map entry_in chapter) strings ≡ chapters

-- the calls of chapters, one chapter after the other
abbrev pub calls_of : List (List Entry) → List Entry
calls_of chapters = flat_map (λ calls. calls) chapters

-- the exchanges of calls, without their callers
abbrev pub exchanges : List Entry → List Exchange
exchanges calls = map (λ (e : Entry). e.exchange) calls

-- The bytes are a whole file of this layout, with this roster or none, and with this ending, and these are its chapters' calls.
pub record IsWholeFile (roster : Option Roster) (layout bytes : List ℕ) (chapters : List (List Entry)) (ending : FileEnding) : Type 0 where
  pub before : List ℕ
  pub file : IsFile roster layout before chapters
  pub whole : bytes ≡ before ++ ending_in before (length (calls_of chapters)) ending

-- Bytes that end inside a chapter or an end mark: they are fewer than its head, or than its head says.
abbrev pub EndsInside : List ℕ → Type 0
EndsInside rest = (length rest < 16) ⊎ (length rest < 48 + size_in rest)

-- No chapter of this number stands there behind the bytes before, however the file goes on.
abbrev pub IsNoChapter : ℕ → List ℕ → List ℕ → Type 0
IsNoChapter number before rest = (strings : List (List ℕ)) (more : List ℕ) → IsChapter strings → IsPrefix (chapter_in before number strings) (rest ++ more) → ⊥

-- No end mark of so many calls ends the file there behind the bytes before, however it goes on.
abbrev pub IsNoEnd : ℕ → List ℕ → List ℕ → Type 0
IsNoEnd calls before rest = (more : List ℕ) → rest ++ more ≡ mark_in before calls → ⊥

-- Neither stands there, behind so many calls: the next chapter, of this number, or an end mark that ends the file.
abbrev pub IsNoPart : ℕ → ℕ → List ℕ → List ℕ → Type 0
IsNoPart calls number before rest = IsNoChapter number before rest × IsNoEnd calls before rest
