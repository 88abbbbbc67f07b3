-- A slave that stays, with the chapters that were cut off it.
use Rattle.std.specs.Prelude.{◌≡◌, ℕ, List, [], ◌∷◌, ◌++◌, length, if◌then◌else◌}
use Rattle.xcp_memory.specs.Layout.{LayoutValue}
use Rattle.xcp_slave.specs.SlaveValue.{opening}
use Rattle.xcp_locked.specs.Chapters.{AreJoined, entries_of}
use Rattle.xcp_locked.specs.Journal.{exchanges}
use Rattle.xcp_locked.specs.LockedSlave.{ChapterValue, LockedValue, chapter_of, cut_off}
use Rattle.xcp_locked.specs.PublishingCalls.{AreImages}
use Rattle.xcp_service.specs.Sessions.{has_session}
use Rattle.xcp_service.specs.Storing.{StoresValue}

-- The slave, with its open chapter, all chapters that were ever cut off it, in order, the seats that have connected and whose tools
-- are still there, the one that connected last first, and the chapter that has to lie on the shelf before a store is finished.
pub record ResidentValue : Type 0 where
  pub locked : LockedValue
  pub past : List ChapterValue
  pub sessions : List ℕ
  pub stores : StoresValue

-- the open chapter was cut off, and is the last of those that were
abbrev pub with_a_cut : ResidentValue → ResidentValue
with_a_cut r = record r { locked = cut_off r.locked; past = r.past ++ chapter_of r.locked ∷ [] }

-- of a slave that was opened for this layout, nothing was cut off yet
abbrev pub IsUncut : LayoutValue → LockedValue → Type 0
IsUncut layout l = (l.chapter ≡ 0) × (l.before ≡ 0) × (l.base ≡ opening layout)

-- From the opening of the layout the chapters that were cut off lead on to the open one, and are one run to its base.
abbrev pub GoesOn : LayoutValue → ResidentValue → Type 0
GoesOn layout r = AreJoined layout r.past r.locked.chapter r.locked.before r.locked.base

-- All that was ever published are the images along the calls of the chapters that were cut off, one behind another, and then of the open one.
abbrev pub HasPublished : LayoutValue → ResidentValue → Type 0
HasPublished layout r = AreImages (opening layout) (exchanges (entries_of r.past ++ r.locked.journal)) r.locked.writer.publications

-- The packets that wait for a seat: where the session is its own, all that wait in the slave's outbox, and else none.
abbrev pub pending_for : ℕ → ResidentValue → ℕ
pending_for seat r = if has_session seat r.sessions then length r.locked.slave.outbox else 0
