-- A call of a slave whose chapters are cut by its calls.
use Rattle.std.specs.Prelude.{◌≡◌, ◌⊎◌, ◌++◌, ℕ, List, [], ◌∷◌, length}
use Rattle.xcp_slave.specs.Step.{Answers}
use Rattle.xcp_slave.specs.Outcomes.{Answer}
use Rattle.xcp_slave.specs.declared.Request.{Request}
use Rattle.xcp_memory.specs.Layout.{LayoutValue}
use Rattle.xcp_slave.specs.SlaveValue.{SlaveValue}
use Rattle.xcp_trace.specs.declared.Entry.{Entry}
use Rattle.xcp_locked.specs.Journal.{entry, exchanges}
use Rattle.xcp_locked.specs.LockedSlave.{IsReached, SameChapter}
use Rattle.xcp_locked.specs.PublishingCalls.{AreAllImages, AreImagesFrom, Publishes}
use Rattle.xcp_locked.specs.Receipts.{receipt}
use Rattle.xcp_locked.specs.declared.receipt.Receipt.{Receipt}
use Rattle.xcp_service.specs.Residents.{ResidentValue, with_a_cut}
use Rattle.xcp_service.specs.Sessions.{noted}
use Rattle.xcp_service.specs.Storing.{asked_in}

-- a call begins with the slave as it was, or behind a cut of the open chapter
abbrev pub IsBegun : ResidentValue → ResidentValue → Type 0
IsBegun old begun = (begun ≡ old) ⊎ (begun ≡ with_a_cut old)

-- its receipt: with the chapter that is open then, and the next place there
abbrev pub receipt_at : ResidentValue → Request → Answer → Receipt
receipt_at begun request answer = receipt begun.locked.chapter (length begun.locked.journal) request answer

-- The caller of this number was answered so: one call more stands in the journal, the image is published where it changed, and it is noted
-- in which chapter a store was asked for. The
-- open chapter may have been cut off before it, and behind it, so that the call is the last of its chapter.
pub record Calls (number : ℕ) (request : Request) (answer : Answer) (old new : ResidentValue) : Type 0 where
  pub begun : ResidentValue
  pub done : ResidentValue
  pub begins : IsBegun old begun
  pub answers : Answers begun.locked.slave request answer done.locked.slave
  pub journal : done.locked.journal ≡ begun.locked.journal ++ entry number request answer ∷ []
  pub chapter : SameChapter begun.locked done.locked
  pub published : Publishes begun.locked done.locked
  pub past : done.past ≡ begun.past
  pub sessions : done.sessions ≡ begun.sessions
  pub stores : done.stores ≡ asked_in begun.locked.chapter request answer begun.stores
  pub ends : (new ≡ done) ⊎ (new ≡ with_a_cut done)

-- The same of a caller of a seat. Behind the call, under the same hold, it is noted whose the session is then.
pub record CallsFor (seat number : ℕ) (request : Request) (answer : Answer) (old new : ResidentValue) : Type 0 where
  pub called : ResidentValue
  pub calls : Calls number request answer old called
  pub notes : new ≡ record called { sessions = noted seat request answer old.sessions }

-- Nothing was executed: at most, the open chapter was cut off.
abbrev pub ExecutesNothing : ResidentValue → ResidentValue → Type 0
ExecutesNothing old new = (new ≡ old) ⊎ (new ≡ with_a_cut old)

-- What was published for the readers behind this caller's call: when it stood last in its chapter, these were the images, and the last of
-- them is the image behind the call. A chapter that was cut off behind it published nothing.
pub record IsPublishedBehind (layout : LayoutValue) (caller : ℕ) (call : Receipt) (new : ResidentValue) : Type 0 where
  -- where the call's chapter begins, and the calls of the chapter before it
  pub before : ℕ
  pub base : SlaveValue
  pub reached : IsReached layout before base
  pub earlier : List Entry
  pub place : length earlier ≡ call.at
  pub first : ℕ
  pub images : AreImagesFrom first base (exchanges (earlier ++ entry caller call.request call.answer ∷ [])) new.locked.writer.publications
  -- all of these, also those of earlier chapters, are images along the calls since the opening
  pub all_images : AreAllImages layout before base (exchanges (earlier ++ entry caller call.request call.answer ∷ [])) new.locked.writer.publications
