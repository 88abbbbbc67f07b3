-- Strings of calls in bytes.
use Rattle.std.specs.Prelude.{◌≡◌, ℕ, List, ◌++◌, length}
use Rattle.sha2.specs.declared.Sha256.{Sha256}
use Rattle.sha2.specs.Hashers.{Holds256}
use Rattle.sha2.specs.Sha256.{sha256}
use Rattle.std.specs.List.{AllByRecursion}
use Rattle.xcp_trace.specs.EntrySpelling.{IsEntryString}
use Rattle.xcp_trace.specs.Tape.{spelt}
use Rattle.xcp_record.specs.FileFormat.{chapter_head}

-- the bytes are these strings of calls
pub record SpellsCalls (bytes : List ℕ) (strings : List (List ℕ)) : Type 0 where
  pub whole : spelt strings ≡ bytes
  pub each : AllByRecursion IsEntryString strings

-- Strings of calls have been passed over, and these bytes are left.
pub record Walks (bytes left : List ℕ) (count : ℕ) : Type 0 where
  pub done : List (List ℕ)
  pub each : AllByRecursion IsEntryString done
  pub joined : bytes ≡ spelt done ++ left
  pub number : length done ≡ count

-- A chapter's bytes, with the digest of all before it; the hasher holds it too.
pub record IsSealed (number count : ℕ) (before calls chapter : List ℕ) (hasher : Sha256) : Type 0 where
  pub bytes : (let body = chapter_head number count (length calls) ++ calls in chapter ≡ body ++ sha256 (before ++ body))
  pub held : Holds256 hasher (before ++ chapter)
