-- Chapters that follow one another.
use Rattle.std.specs.Prelude.{◌≡◌, ◌<◌, ◌⊎◌, ℕ, ◌+◌, false, true, List, [], ◌∷◌, ◌++◌, length, take, Some}
use Rattle.std.specs.List.{flat_map, slice_get}
use Rattle.xcp_memory.specs.Layout.{LayoutValue}
use Rattle.xcp_slave.specs.Run.{Run}
use Rattle.xcp_slave.specs.SlaveValue.{SlaveValue, opening}
use Rattle.xcp_trace.specs.declared.Entry.{Entry}
use Rattle.xcp_locked.specs.Caller.{CallerValue}
use Rattle.xcp_locked.specs.Journal.{exchanges}
use Rattle.xcp_locked.specs.LockedSlave.{ChapterValue, LockedValue}
use Rattle.xcp_locked.specs.SettledReceipts.{AreSettledFor, FirstUnsettledFor}
use Rattle.xcp_locked.specs.declared.joining.Discord.{Discord}
use Rattle.xcp_locked.specs.declared.joining.Discord.TheVariants as discords

-- the calls of chapters, one chapter behind another
abbrev pub entries_of : List ChapterValue → List Entry
entries_of chapters = flat_map (λ (c : ChapterValue). c.entries) chapters

-- From a chapter's number, so many calls before it and the slave there the chapters lead on to another's: each has the next number,
-- begins where the one before ended, and says how many calls there were before it.
abbrev pub LeadTo : ℕ → ℕ → SlaveValue → List ChapterValue → ℕ → ℕ → SlaveValue → Type 0
LeadTo k n v [] number before base = (number ≡ k) × (before ≡ n) × (base ≡ v)
LeadTo k n v (c ∷ cs) number before base = (c.number ≡ k) × (c.before ≡ n) × (c.base ≡ v) × LeadTo (k + 1) (n + length c.entries) c.last cs number before base

-- From the opening of the layout the chapters lead on to the open one, and are one run to its base.
pub record AreJoined (layout : LayoutValue) (chapters : List ChapterValue) (number before : ℕ) (base : SlaveValue) : Type 0 where
  pub lead : LeadTo 0 0 (opening layout) chapters number before base
  pub count : length (entries_of chapters) ≡ before
  pub run : Run (opening layout) (exchanges (entries_of chapters)) base

-- a chapter has the next number, says how many calls there were before it, and begins where the one before ended
abbrev pub Follows : ℕ → ℕ → SlaveValue → ℕ → ℕ → SlaveValue → Type 0
Follows k calls at number before base = (number ≡ k) × (before ≡ calls) × (base ≡ at)

-- The first chapter that doesn't follow: those before it lead on to so many calls and to this slave, and it isn't the one that goes on
-- from there. Behind the last chapter of the list this is the open one.
pub record IsFirstGap (layout : LayoutValue) (chapters : List ChapterValue) (number before : ℕ) (base : SlaveValue) (k : ℕ) : Type 0 where
  pub calls : ℕ
  pub at : SlaveValue
  pub lead : LeadTo 0 0 (opening layout) (take k chapters) k calls at
  pub gap : ((c : ChapterValue) × (slice_get chapters k ≡ Some c) × ¬ Follows k calls at c.number c.before c.base)
      ⊎ ((k ≡ length chapters) × ¬ Follows k calls at number before base)

-- all callers are settled for each chapter
abbrev pub AreAllSettled : ℕ → List ChapterValue → List CallerValue → Type 0
AreAllSettled n chapters callers = (k : ℕ) (c : ChapterValue) → k < n → slice_get chapters k ≡ Some c → AreSettledFor false c.number c.entries (length callers) callers

-- All that was accepted is one run of one slave: the calls of the chapters, in order, and then those of the open one, of which each
-- caller has its receipts and no other.
pub record IsWhole (layout : LayoutValue) (l : LockedValue) (chapters : List ChapterValue) (callers : List CallerValue) : Type 0 where
  pub joined : AreJoined layout chapters l.chapter l.before l.base
  pub run : Run (opening layout) (exchanges (entries_of chapters ++ l.journal)) l.slave
  pub settled : AreAllSettled (length chapters) chapters callers
  pub last : AreSettledFor true l.chapter l.journal (length callers) callers

-- A chapter is named where it is the first that doesn't follow. Where all follow, a caller's receipts may be named: these are the first
-- that differ, those of a chapter, where all are settled for those before it, or those of the open one, where all are settled for each
-- chapter.
abbrev pub Disagree : LayoutValue → LockedValue → List ChapterValue → List CallerValue → Discord → Type 0
Disagree layout l chapters callers (discords.Chapter k) = IsFirstGap layout chapters l.chapter l.before l.base k
Disagree layout l chapters callers (discords.Receipts k u) =
    AreJoined layout chapters l.chapter l.before l.base
    × (((c : ChapterValue) × (slice_get chapters k ≡ Some c) × AreAllSettled k chapters callers × FirstUnsettledFor false c.number c.entries callers u)
    ⊎ ((k ≡ l.chapter) × AreAllSettled (length chapters) chapters callers × FirstUnsettledFor true l.chapter l.journal callers u))
