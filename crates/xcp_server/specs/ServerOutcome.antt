-- Connections, tasks and the callers that are dealt to them.
use Rattle.std.specs.Prelude.{◌≡◌, ◌<◌, ℕ, Bool, true, false, List, [], ◌++◌, map, length, Option, Some, Result, Ok, All}
use Rattle.std.specs.List.{count_by, slice_get}
use Rattle.xcp_slave.specs.declared.Request.{Request}
use Rattle.xcp_slave.specs.declared.Request.TheVariants as requests
use Rattle.xcp_framing.specs.declared.serving.ServeError.{ServeError}
use Rattle.xcp_framing.specs.declared.serving.Served.{Served}
use Rattle.xcp_bank.specs.BankEnds.{ReaderEnd}
use Rattle.xcp_memory.specs.Layout.{LayoutValue}
use Rattle.xcp_framing.specs.CountedCalls.{Watched}
use Rattle.xcp_connection.specs.declared.closing.Closed.{Closed}
use Rattle.xcp_server.specs.declared.closing.Closing.{Closing}
use Rattle.xcp_locked.specs.declared.receipt.Receipt.{Receipt}
use Rattle.xcp_locked.specs.declared.tasks.Done.{Done}
use Rattle.xcp_locked.specs.declared.worker.Worker.{Worker}
use Rattle.xcp_server.specs.ConnectionOutcome.{Attended}
use Rattle.xcp_locked.specs.Caller.{CallerValue}
use Rattle.xcp_server.specs.LastHangup.{HungUp}
use Rattle.xcp_locked.specs.PairedLists.{EachFrom}
use Rattle.xcp_locked.specs.Excerpts.{cuts_at_stores}
use Rattle.xcp_locked.specs.TaskOutcome.{WorkedAs, chapters_of, first_task_fault}

-- nothing of what a server left has changed
pub record SameClosing {N I O : Type 0} (old new : Closing N I O) : Type 0 where
  pub locked : new.locked ≡ old.locked
  pub chapters : new.chapters ≡ old.chapters
  pub callers : new.callers.items ≡ old.callers.items
  pub readers : new.readers ≡ old.readers
  pub outcomes : new.outcomes ≡ old.outcomes
  pub left : new.left ≡ old.left
  pub fault : new.fault ≡ old.fault

-- whether a request is a command of a tool
abbrev pub is_command : Request → Bool
is_command (requests.Command packet) = true
is_command _ = false

-- how many of these receipts are of commands
abbrev pub command_count : List Receipt → ℕ
command_count receipts = count_by (λ r. is_command r.request) receipts

-- Each connection that ended well counted the commands of its caller, which stands at the connection's place.
abbrev pub CountTheirCommands : List (Result Served ServeError) → List CallerValue → Type 0
CountTheirCommands outcomes callers = (i : ℕ) (served : Served) (c : CallerValue) → slice_get outcomes i ≡ Some (Ok served) → slice_get callers i ≡ Some c → served.frames ≡ command_count c.receipts

module _ {I O : Type 0} (remaining : I → Option (List ℕ)) (contents : O → Option (List ℕ)) where
  -- the connection at this place was served for the callers of this place among those of tools and those of pumps
  pub record ServedAt (m turns : ℕ) (tools pumps : List CallerValue) (place : ℕ) (stream : Watched I × Watched O) (d : Closed CallerValue I O) : Type 0 where
    pub tool : CallerValue
    pub tool_at : slice_get tools place ≡ Some tool
    pub pump : CallerValue
    pub pump_at : slice_get pumps place ≡ Some pump
    pub attended : Attended remaining contents m turns stream.0 stream.1 tool pump d

  -- A server's work, for the callers that were opened: the first of them served the connections, the next did the tasks' work,
  -- the next the connections' pumps, and all come back in order, the first one after a last Hangup. The readers that were opened
  -- come back too: the first of them as the tasks left them. The chapters are those that task 0 has cut, with `each_store` behind stores too. `may_end` says that the
  -- gate may end a task.
  pub record Closes {N : Type 0} (layout : LayoutValue) (may_end : Type 0) (m turns cycles chapter : ℕ) (each_store : Bool) (tasks : ℕ) (opened : List CallerValue) (readers : List ReaderEnd) (streams : List (Watched I × Watched O)) (r : Closing N I O) : Type 0 where
    -- the callers
    pub tools : List CallerValue
    pub connected : length tools ≡ length streams
    pub pumps : List CallerValue
    pub drained : length pumps ≡ length streams
    pub spare : List CallerValue
    pub workers : List (Worker N)
    pub hired : length workers ≡ tasks
    pub fresh : All (λ (w : Worker N). w.chapters.items ≡ []) workers
    pub stores : 0 < tasks → cuts_at_stores (chapters_of workers).way ≡ each_store
    pub dealt : opened ≡ tools ++ map (λ w. w.caller) workers ++ pumps ++ spare
    -- the connections
    pub closed : List (Closed CallerValue I O)
    pub served : EachFrom (ServedAt m turns tools pumps) 0 streams closed
    pub outcomes_are : r.outcomes.items ≡ map (λ d. d.outcome) closed
    pub left_is : r.left.items ≡ map (λ d. d.left) closed
    -- the tasks
    pub done : List (Done N)
    pub worked : EachFrom (WorkedAs layout may_end cycles chapter) 0 workers done
    pub hung_up : HungUp (first_task_fault done) r.fault (map (λ d. d.tool) closed ++ map (λ d. d.worker.caller) done ++ map (λ d. d.pump) closed ++ spare) r.callers.items r.locked.chapter r.locked.journal
    -- the chapters
    pub chapters_are : r.chapters.items ≡ (chapters_of (map (λ d. d.worker) done)).items
    -- the readers
    pub unused : List ReaderEnd
    pub lent : readers ≡ map (λ w. w.reader) workers ++ unused
    pub readers_back : r.readers.items ≡ map (λ d. d.worker.reader) done ++ unused
