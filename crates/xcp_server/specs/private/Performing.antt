-- What came of connections and tasks, to which callers were dealt.
use Rattle.std.specs.Prelude.{◌≡◌, ◌≤◌, ℕ, List, [], Option, length, vec_capacity}
use Rattle.std.specs.List.{AllZip}
use Rattle.xcp_bank.specs.BankEnds.{ReaderEnd}
use Rattle.xcp_connection.specs.declared.connection.Limits.{Limits}
use Rattle.xcp_framing.specs.CountedCalls.{Watched}
use Rattle.xcp_locked.specs.Caller.{CallerValue}
use Rattle.xcp_locked.specs.Excerpts.{ExcerptsValue, HandingValue, way_of}
use Rattle.xcp_locked.specs.TaskOutcome.{DoneAs}
use Rattle.xcp_memory.specs.Layout.{LayoutValue}
use Rattle.xcp_outlet.specs.OutletEnds.{Outlet}
use Rattle.xcp_server.specs.declared.dealing.Duties.{Duties}
use Rattle.xcp_server.specs.declared.server.Performed.{Performed}
use Rattle.xcp_server.specs.private.ConnectionParts.{CameOfTools}
use Rattle.xcp_server.specs.private.DealtCallers.{Dealt}
use Rattle.xcp_server.specs.private.WrittenChapters.{first_way, relay_of}

-- There are as many connections as streams, and room for what came of them.
pub record Performs {N R I O S : Type 0} (G L : Type 0) (remaining : I → Option (List ℕ)) (layout : LayoutValue) (may_end : Type 0) (limits : Limits) (cycles chapter tasks : ℕ) (callers : List CallerValue) (readers : List ReaderEnd) (streams : List (Watched I)) (outlets : List Outlet) (handing : Option HandingValue) (writing : Option ExcerptsValue) (r : Performed N R I O S) : Type 0 where
  -- the connections and tasks
  pub duties : Duties N G R L I O
  pub dealt : Dealt limits cycles chapter tasks callers readers streams outlets duties
  pub way : first_way duties.tasks.items ≡ way_of handing
  -- what came of them
  pub parted : AllZip (CameOfTools remaining) duties.connections.items r.parted.items
  pub worked : AllZip (DoneAs layout may_end) duties.tasks.items r.done.items
  -- who had nothing to do
  pub spare : r.spare ≡ duties.spare
  pub unused : r.unused ≡ duties.unused
  -- chapters go to the same one
  pub relay : relay_of r.writing ≡ relay_of writing
  -- and the room has nothing in it yet
  pub room : (r.room.items ≡ []) × (length streams ≤ vec_capacity r.room)
