-- A server before anybody begins.
use Rattle.std.specs.Prelude.{◌≡◌, ◌<◌, ℕ, Bool, None, vec_len}
use Rattle.xcp_locked.specs.Excerpts.{HandsNone, cuts_at_stores, way_of}
use Rattle.xcp_server.specs.private.ServerRoom.{IsRoom}
use Rattle.xcp_server.specs.private.WrittenChapters.{relay_of, relay_to}
use Rattle.xcp_server.specs.declared.server.Ready.{Ready}

-- All that takes memory is there for so many tasks.
pub record IsReady {N I O S : Type 0} (tasks : ℕ) (each_store : Bool) (r : Ready N I O S) : Type 0 where
  -- there is room for all that is given back
  pub rooms : IsRoom (vec_len r.callers) (vec_len r.streams) tasks (vec_len r.readers) r.rooms
  -- each connection has a stop
  pub stops : vec_len r.stops ≡ vec_len r.streams
  -- no excerpt was handed in yet, and without tasks there is nobody to do it
  pub handing : HandsNone r.handing × (tasks ≡ 0 → r.handing ≡ None)
  -- excerpts go to those who write them down
  pub relay : relay_of r.writing ≡ relay_to (way_of r.handing)
  -- where there are tasks, a store ends a chapter if that was asked for
  pub stores : 0 < tasks → cuts_at_stores (way_of r.handing) ≡ each_store
