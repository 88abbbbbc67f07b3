-- Chapters that wait for the sheaves of their callers.
use Rattle.std.specs.Prelude.{◌≡◌, ◌≢◌, ◌⊎◌, ◌<◌, ◌≤◌, ℕ, Bool, true, false, not, ◌&&◌, ◌==◌, ⊤, List, [], ◌∷◌, length, map, if◌then◌else◌, slice_index_or as get_or, slice_set, Some, nat_lt}
use Rattle.std.specs.List.{AllByRecursion, list_all, list_any, slice_get}
use Rattle.xcp_locked.specs.LockedSlave.{ChapterValue}
use Rattle.xcp_locked.specs.SettledReceipts.{DifferAt, among, receipts_for, tally}
use Rattle.xcp_locked.specs.Sheaves.{SheafValue}
use Rattle.xcp_locked.specs.declared.joining.Discord.{Discord}
use Rattle.xcp_locked.specs.declared.joining.Discord.TheVariants as discords
use Rattle.xcp_service.specs.Keeping.{IsSettledBy, caller_limit, is_chapter_among, receipts_by}

-- A chapter, and how many of its calls are still to be settled, of each caller.
pub record WaitingValue : Type 0 where
  pub chapter : ChapterValue
  pub owed : List ℕ

-- the chapters themselves
abbrev pub chapters_in : List WaitingValue → List ChapterValue
chapters_in ws = map (λ w. w.chapter) ws

-- so many calls a caller has in a chapter
abbrev pub calls_in_chapter : ℕ → ChapterValue → ℕ
calls_in_chapter caller c = length (tally caller c.number 0 c.entries)

-- of each caller, how many calls it has there
abbrev pub IsCounted : ChapterValue → List ℕ → Type 0
IsCounted c counts = (caller : ℕ) → caller < caller_limit → get_or counts caller 0 ≡ calls_in_chapter caller c

-- the sheaf must have what this chapter still wants of its caller
abbrev pub is_due : SheafValue → WaitingValue → Bool
is_due s w = nat_lt w.chapter.number s.until && not (get_or w.owed s.caller 0 == 0)

-- nothing is wanted of this caller any more, where the chapter is one before this
abbrev pub settled_mark : ℕ → ℕ → WaitingValue → WaitingValue
settled_mark caller until w = if nat_lt w.chapter.number until then record w { owed = slice_set w.owed caller 0 } else w

-- nothing is wanted of anybody
abbrev pub owes_nothing : WaitingValue → Bool
owes_nothing w = list_all (λ n. n == 0) w.owed

-- Of a caller nothing is wanted, and its sheaves have its calls of the chapter; or all its calls are wanted, and they have none.
abbrev pub IsOwedRight : List SheafValue → WaitingValue → ℕ → Type 0
IsOwedRight sheaves w caller =
    ((get_or w.owed caller 0 ≡ 0) × IsSettledBy sheaves w.chapter caller)
    ⊎ ((get_or w.owed caller 0 ≡ calls_in_chapter caller w.chapter) × (receipts_for false w.chapter.number (receipts_by caller sheaves) ≡ []))

-- a chapter that waits is one of those that were taken, and what it wants is right for all callers
pub record IsChapterWaiting (chapters : List ChapterValue) (sheaves : List SheafValue) (w : WaitingValue) : Type 0 where
  pub taken : slice_get chapters w.chapter.number ≡ Some w.chapter
  pub owed : (caller : ℕ) → caller < caller_limit → IsOwedRight sheaves w caller

-- no two have the same number
abbrev pub AreApart : List WaitingValue → Type 0
AreApart [] = ⊤
AreApart (w ∷ ws) = (is_chapter_among w.chapter.number (chapters_in ws) ≡ false) × AreApart ws

-- A keeper's chapters and sheaves: those that wait do so rightly, those that don't are settled, and no sheaf has receipts of a chapter to come.
pub record AreKept (chapters : List ChapterValue) (sheaves : List SheafValue) (ws : List WaitingValue) : Type 0 where
  pub waiting : AllByRecursion (IsChapterWaiting chapters sheaves) ws
  pub apart : AreApart ws
  pub dropped : (j : ℕ) (c : ChapterValue) → slice_get chapters j ≡ Some c → is_chapter_among j (chapters_in ws) ≡ false → (caller : ℕ) → caller < caller_limit → IsSettledBy sheaves c caller
  pub future : (n caller : ℕ) → length chapters ≤ n → receipts_for false n (receipts_by caller sheaves) ≡ []

-- one of these is due, and has this number
abbrev pub has_due : SheafValue → List WaitingValue → ℕ → Bool
has_due s ws number = list_any (λ (w : WaitingValue). is_due s w && (number == w.chapter.number)) ws

-- where a chapter is due, the sheaf has the caller's receipts of it
abbrev pub FitsDue : SheafValue → WaitingValue → Type 0
FitsDue s w = is_due s w ≡ true → receipts_for false w.chapter.number s.receipts ≡ tally s.caller w.chapter.number 0 w.chapter.entries

-- The sheaf has its caller's receipts of all chapters that are due, and no others.
pub record FitsAll (s : SheafValue) (ws : List WaitingValue) : Type 0 where
  pub each : AllByRecursion (FitsDue s) ws
  pub others : (n : ℕ) → has_due s ws n ≡ false → receipts_for false n s.receipts ≡ []

-- what is wanted of a caller is nothing, or as many as it has calls there
abbrev pub IsCountedFor : ℕ → WaitingValue → Type 0
IsCountedFor caller w = (get_or w.owed caller 0 ≡ 0) ⊎ (get_or w.owed caller 0 ≡ calls_in_chapter caller w.chapter)

-- A chapter is due, and the sheaf's receipts of it differ from its caller's calls there; the place at which they do first is told.
pub record DiffersFrom (s : SheafValue) (w : WaitingValue) (d : Discord) : Type 0 where
  pub due : is_due s w ≡ true
  pub at : ℕ
  pub differs : DifferAt at (receipts_for false w.chapter.number s.receipts) (tally s.caller w.chapter.number 0 w.chapter.entries)
  pub told : d ≡ discords.Receipts w.chapter.number (record { caller = s.caller; at = at })

-- The sheaf has receipts of others than the chapters that are due; how many it has of these is told.
pub record HasOthers (s : SheafValue) (ws : List WaitingValue) (d : Discord) : Type 0 where
  pub right : ℕ
  pub count : right ≡ length (among (has_due s ws) s.receipts)
  pub less : right ≢ length s.receipts
  pub told : d ≡ discords.Receipts s.until (record { caller = s.caller; at = right })

-- the sheaf doesn't fit
abbrev pub IsSheafUnfit : SheafValue → List WaitingValue → Discord → Type 0
IsSheafUnfit s ws d = ((k : ℕ) × (w : WaitingValue) × (slice_get ws k ≡ Some w) × DiffersFrom s w d) ⊎ HasOthers s ws d
