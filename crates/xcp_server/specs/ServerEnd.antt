-- What a server leaves at its end.
use Rattle.std.specs.Prelude.{◌≡◌, ℕ, List, vec_len}
use Rattle.xcp_memory.specs.Layout.{LayoutValue}
use Rattle.xcp_slave.specs.Run.{Run}
use Rattle.xcp_scribe.specs.Given.{Given}
use Rattle.xcp_locked.specs.Journal.{exchanges}
use Rattle.xcp_locked.specs.LockedSlave.{IsReached}
use Rattle.xcp_server.specs.LastHangup.{EndsSession}
use Rattle.xcp_server.specs.Report.{given_in}
use Rattle.xcp_server.specs.declared.closing.Closing.{Closing}

-- A server of so many callers has ended on a slave of this layout; `wrote` says what its scribe was given.
pub record LeavesAll {N I O : Type 0} (layout : LayoutValue) (opened : ℕ) (wrote : List Given → Type 0) (r : Closing N I O) : Type 0 where
  -- all callers that were opened come back
  pub callers : vec_len r.callers ≡ opened
  -- without a fault the journal ends with a Hangup of the first caller
  pub hangup : EndsSession r.fault r.callers.items r.locked.chapter r.locked.journal
  -- the open chapter's journal is a run of the slave from the chapter's base
  pub run : Run r.locked.base (exchanges r.locked.journal) r.locked.slave
  -- as many calls as are told led from the layout's opening to this base
  pub reached : IsReached layout r.locked.before r.locked.base
  -- the scribe was given the chapters that were cut off, in order
  pub written : wrote (given_in r.chapters.items)
