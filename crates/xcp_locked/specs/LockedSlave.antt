-- What lies under the lock, as contracts see it, and a chapter that was cut off its journal.
use Rattle.std.specs.Prelude.{◌≡◌, ℕ, ◌+◌, ◌-◌, List, [], length}
use Rattle.xcp_bank.specs.BankEnds.{WriterEnd}
use Rattle.xcp_memory.specs.Layout.{LayoutValue}
use Rattle.xcp_slave.specs.declared.Exchange.{Exchange}
use Rattle.xcp_slave.specs.Run.{Run}
use Rattle.xcp_slave.specs.SlaveValue.{SlaveValue, opening}
use Rattle.xcp_trace.specs.declared.Entry.{Entry}

-- A slave; the open chapter: its number, what the slave was where it begins, and all the calls since, in order; how many calls there
-- were in the chapters before it; the end of the bank that writes: the images that it published for the readers, the newest last,
-- and what it did; and the number of the chapter's first image among them.
pub record LockedValue : Type 0 where
  pub slave : SlaveValue
  pub chapter : ℕ
  pub base : SlaveValue
  pub journal : List Entry
  pub before : ℕ
  pub writer : WriterEnd
  pub first : ℕ

-- A chapter: its number, how many calls there were before it, the slave where it begins, its calls, and the slave where it ends.
pub record ChapterValue : Type 0 where
  pub number : ℕ
  pub before : ℕ
  pub base : SlaveValue
  pub entries : List Entry
  pub last : SlaveValue

-- so many calls have led a slave of this layout from its opening to v
pub record IsReached (layout : LayoutValue) (n : ℕ) (v : SlaveValue) : Type 0 where
  pub past : List Exchange
  pub count : length past ≡ n
  pub run : Run (opening layout) past v

-- the open chapter, cut off
abbrev pub chapter_of : LockedValue → ChapterValue
chapter_of l = record { number = l.chapter; before = l.before; base = l.base; entries = l.journal; last = l.slave }

-- what is left: a chapter without calls, which begins where the other ended, and whose first image is the newest
abbrev pub cut_off : LockedValue → LockedValue
cut_off l = record { slave = l.slave; chapter = l.chapter + 1; base = l.slave; journal = []; before = l.before + length l.journal; writer = l.writer; first = length l.writer.publications - 1 }

-- the open chapter is the same one, and begins where it began
pub record SameChapter (old new : LockedValue) : Type 0 where
  pub chapter : new.chapter ≡ old.chapter
  pub base : new.base ≡ old.base
  pub before : new.before ≡ old.before
  pub first : new.first ≡ old.first
