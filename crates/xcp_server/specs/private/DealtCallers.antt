-- Callers that were dealt to connections and tasks.
use Rattle.std.specs.Prelude.{◌≡◌, ℕ, List, [], ◌++◌, map, length, All}
use Rattle.std.specs.List.{AllZip}
use Rattle.std.specs.Vec.Iter.{into_iter_items}
use Rattle.xcp_bank.specs.BankEnds.{ReaderEnd}
use Rattle.xcp_connection.specs.declared.connection.Limits.{Limits}
use Rattle.xcp_framing.specs.CountedCalls.{Watched}
use Rattle.xcp_outlet.specs.OutletEnds.{Outlet}
use Rattle.xcp_server.specs.declared.dealing.Duties.{Duties}
use Rattle.xcp_locked.specs.declared.worker.Worker.{Worker}
use Rattle.xcp_locked.specs.Caller.{CallerValue}
use Rattle.xcp_locked.specs.PairedLists.{EachFrom}
use Rattle.xcp_locked.specs.TaskOutcome.{IsTaskOf}
use Rattle.xcp_server.specs.private.ConnectionParts.{IsConnectionWithin}

-- The first of these callers have a connection for each reader and outlet, the next a task each, the next a pump for each
-- connection, and the others are spare. The first of these readers have a task each too. No task has cut a chapter yet.
pub record Dealt {N G R L I O : Type 0} (limits : Limits) (cycles chapter tasks : ℕ) (callers : List CallerValue) (readers : List ReaderEnd) (streams : List (Watched I)) (outlets : List Outlet) (d : Duties N G R L I O) : Type 0 where
  pub connections : AllZip (IsConnectionWithin limits) streams d.connections.items
  pub outlets_are : map (λ c. c.0.replies.outlet) d.connections.items ≡ outlets
  pub workers : List (Worker N)
  pub hired : length workers ≡ tasks
  pub fresh : All (λ (w : Worker N). w.chapters.items ≡ []) workers
  pub numbered : EachFrom (IsTaskOf cycles chapter) 0 workers d.tasks.items
  pub in_order : callers ≡ map (λ c. c.0.station.caller) d.connections.items ++ map (λ w. w.caller) workers ++ map (λ c. c.1.station.caller) d.connections.items ++ into_iter_items d.spare
  pub readers_in_order : readers ≡ map (λ w. w.reader) workers ++ into_iter_items d.unused
