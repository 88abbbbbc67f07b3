-- What a keeper has settled of the chapters that it took.
use Rattle.std.specs.Prelude.{◌≡◌, ◌<◌, ◌≤◌, ℕ, Bool, false, ◌==◌, List, [], ◌∷◌, ◌++◌, length, if◌then◌else◌, Some}
use Rattle.std.specs.List.{count_by, list_any, slice_get}
use Rattle.xcp_slave.specs.SlaveValue.{SlaveValue}
use Rattle.xcp_trace.specs.declared.Entry.{Entry}
use Rattle.xcp_locked.specs.Chapters.{entries_of}
use Rattle.xcp_locked.specs.LockedSlave.{ChapterValue}
use Rattle.xcp_locked.specs.SettledReceipts.{receipts_for, tally}
use Rattle.xcp_locked.specs.Sheaves.{SheafValue}
use Rattle.xcp_locked.specs.declared.receipt.Receipt.{Receipt}

-- How many callers a slave may have.
abbrev pub caller_limit : ℕ
caller_limit = 256

-- A keeper: the chapters that it took, the sheaves that it took, which of the chapters are still there, the number that the next one has,
-- how many calls there were before it, and the slave with which it begins.
pub record KeeperValue : Type 0 where
  pub chapters : List ChapterValue
  pub sheaves : List SheafValue
  pub waiting : List ChapterValue
  pub number : ℕ
  pub before : ℕ
  pub last : SlaveValue

-- the receipts of one caller's sheaves, in order
abbrev pub receipts_by : ℕ → List SheafValue → List Receipt
receipts_by caller [] = []
receipts_by caller (s ∷ ss) = if s.caller == caller then s.receipts ++ receipts_by caller ss else receipts_by caller ss

-- what a caller's sheaves have of a chapter: the receipts of its calls there, in order, each with its place
abbrev pub IsSettledBy : List SheafValue → ChapterValue → ℕ → Type 0
IsSettledBy sheaves c caller = receipts_for false c.number (receipts_by caller sheaves) ≡ tally caller c.number 0 c.entries

-- a chapter of this number is among these
abbrev pub is_chapter_among : ℕ → List ChapterValue → Bool
is_chapter_among number chapters = list_any (λ (c : ChapterValue). number == c.number) chapters

-- Each chapter that is not there any more is settled by all callers: each has handed over the receipts of its calls there, and no others.
abbrev pub AreDroppedSettled : KeeperValue → Type 0
AreDroppedSettled k = (j : ℕ) (c : ChapterValue) → slice_get k.chapters j ≡ Some c → is_chapter_among j k.waiting ≡ false → (caller : ℕ) → caller < caller_limit → IsSettledBy k.sheaves c caller

-- each chapter is settled by all callers
abbrev pub AreKeptSettled : KeeperValue → Type 0
AreKeptSettled k = (j : ℕ) (c : ChapterValue) → slice_get k.chapters j ≡ Some c → (caller : ℕ) → caller < caller_limit → IsSettledBy k.sheaves c caller

-- no sheaf has a receipt of a chapter that isn't there yet
abbrev pub HasNoneAhead : KeeperValue → Type 0
HasNoneAhead k = (n caller : ℕ) → length k.chapters ≤ n → receipts_for false n (receipts_by caller k.sheaves) ≡ []

-- how many calls of all chapters are this caller's
abbrev pub calls_by : ℕ → List ChapterValue → ℕ
calls_by caller chapters = count_by (λ (e : Entry). e.caller == caller) (entries_of chapters)

-- The receipts that a caller ever handed over are as many as the chapters have calls of it. Where each chapter is settled by it, each of
-- them is one call, and no two are the same one.
abbrev pub AreOnce : KeeperValue → Type 0
AreOnce k = (caller : ℕ) → caller < caller_limit → length (receipts_by caller k.sheaves) ≡ calls_by caller k.chapters
