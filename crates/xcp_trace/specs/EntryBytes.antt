-- Bytes that spell entries, as a tape has them: strings one behind another, each behind its length.
use Rattle.std.specs.Prelude.{◌≡◌, ℕ, List, ◌++◌, map}
use Rattle.std.specs.List.{AllByRecursion}
use Rattle.xcp_trace.specs.declared.journal.Entry.{Entry}
use Rattle.xcp_trace.specs.EntrySpelling.{IsEntryString, entry_in}
use Rattle.xcp_trace.specs.Tape.{framed, spelt}

-- the bytes are strings that spell these entries, and nothing else
pub record SpellEntries (bytes : List ℕ) (entries : List Entry) : Type 0 where
  pub strings : List (List ℕ)
  pub each : AllByRecursion IsEntryString strings
  pub whole : spelt strings ≡ bytes
  pub spells : map entry_in strings ≡ entries

-- the bytes begin with a string that spells this entry, and then come the others
pub record BeginWithEntry (bytes : List ℕ) (entry : Entry) (others : List ℕ) : Type 0 where
  pub string : List ℕ
  pub is : IsEntryString string
  pub joined : bytes ≡ framed string ++ others
  pub spells : entry_in string ≡ entry
