-- What is put together at a server's end.
use Rattle.std.specs.Prelude.{◌≡◌, List, Option, Result, false}
use Rattle.xcp_memory.specs.Layout.{LayoutValue}
use Rattle.xcp_slave.specs.Run.{Run}
use Rattle.xcp_bank.specs.BankEnds.{ReaderEnd}
use Rattle.xcp_framing.specs.declared.serving.ServeError.{ServeError}
use Rattle.xcp_framing.specs.declared.serving.Served.{Served}
use Rattle.xcp_locked.specs.Excerpts.{ChaptersValue, HandingValue, KeepsPace, way_of}
use Rattle.xcp_locked.specs.Journal.{exchanges}
use Rattle.xcp_locked.specs.LockedSlave.{ChapterValue, IsReached}
use Rattle.xcp_server.specs.declared.closing.Closing.{Closing}
use Rattle.xcp_connection.specs.declared.closing.Gone.{Gone}

-- What became of connections and readers is given back, and the slave as it is.
pub record GivesBackAll {N I O : Type 0} (layout : LayoutValue) (outcomes : List (Result Served ServeError)) (left : List (Gone I O)) (readers : List ReaderEnd) (r : Closing N I O) : Type 0 where
  -- how each connection ended
  pub outcomes_are : r.outcomes.items ≡ outcomes
  -- what its streams were then
  pub left_is : r.left.items ≡ left
  -- all readers, in this order
  pub readers_back : r.readers.items ≡ readers
  -- the open chapter's journal is a run of the slave from the chapter's base
  pub run : Run r.locked.base (exchanges r.locked.journal) r.locked.slave
  -- as many calls as are told led from the layout's opening to this base
  pub reached : IsReached layout r.locked.before r.locked.base

-- The chapters that were cut off are given back, and who handed their excerpts in.
pub record GivesChapters (cut : ChaptersValue) (chapters : List ChapterValue) (handing : Option HandingValue) : Type 0 where
  -- all of them, in order
  pub chapters_are : chapters ≡ cut.items
  -- their excerpts go where they went
  pub way : way_of handing ≡ cut.way
  -- and just their excerpts were handed in
  pub pace : KeepsPace false handing chapters
