-- What is true of all calls of a server that stayed.
use Rattle.std.specs.Prelude.{◌≡◌, ◌⊎◌, ◌+◌, ◌-◌, ◌^◌, ◌<◌, ⊤, ℕ, min, List, [], length}
use Rattle.std.specs.List.{AllByRecursion}
use Rattle.xcp_memory.specs.Layout.{LayoutValue}
use Rattle.xcp_slave.specs.SlaveValue.{SlaveValue, opening}
use Rattle.xcp_scribe.specs.Given.{Given}
use Rattle.xcp_locked.specs.Caller.{CallerValue}
use Rattle.xcp_locked.specs.Chapters.{AreJoined, entries_of}
use Rattle.xcp_locked.specs.Journal.{exchanges}
use Rattle.xcp_locked.specs.LockedSlave.{ChapterValue, LockedValue}
use Rattle.xcp_locked.specs.PublishingCalls.{AreImages}
use Rattle.xcp_service.specs.Keeping.{AreKeptSettled, KeeperValue, calls_by}
use Rattle.xcp_service.specs.Losing.{lost_in}
use Rattle.xcp_service.specs.Parcels.{AreNumbered, IsHandedOver, given_in}
use Rattle.xcp_service.specs.Refusals.{IsMet, IsKeeperRefusal, RefusalValue}
use Rattle.xcp_service.specs.declared.keeper.Unkept.{Unkept}
use Rattle.xcp_service.specs.declared.keeper.Unkept.TheVariants as unkept
use Rattle.xcp_locked.specs.declared.joining.Discord.TheVariants as discords
use Rattle.xcp_stay.specs.declared.unstayed.StayError.{StayError}
use Rattle.xcp_stay.specs.declared.unstayed.StayError.TheVariants as errors
use Rattle.xcp_stay.specs.declared.unstayed.Unstayed.{Unstayed}
use Rattle.xcp_stay.specs.declared.unstayed.Unstayed.TheVariants as ends
use Rattle.xcp_stay.specs.declared.staying.StayReport.{StayReport}
use Rattle.xcp_stay.specs.Team.{HaveAllServed, timekeepers}
use Rattle.xcp_stay.specs.Unmet.{UnmetValue}

-- why a server ends whose keeper goes no further
abbrev pub stay_error : Unkept → StayError
stay_error unkept.Memory = errors.Memory
stay_error (unkept.Discord d) = errors.Discord d

-- what is told of a server that ended early
abbrev pub early_end : {N : Type 0} → Unstayed N → StayError
early_end ends.Memory = errors.Memory
early_end ends.Listener = errors.Listener
early_end (ends.Refused r) = stay_error r.why
early_end (ends.Unmet u) = errors.Discord (discords.Chapter (length u.keeper.chapters))

-- A mismatch is told: a keeper whose chapters come under this number refuses what came, or one that took all doesn't meet the slave of this
-- layout, and the next chapter is named.
abbrev pub IsKeeperMismatch : LayoutValue → ℕ → StayError → Type 0
IsKeeperMismatch layout desk (errors.Discord d) =
    ((r : RefusalValue) × IsKeeperRefusal desk r × (r.why ≡ unkept.Discord d))
    ⊎ ((u : UnmetValue) × (IsMet layout u.keeper u.locked → ⊥) × (d ≡ discords.Chapter (length u.keeper.chapters)))
IsKeeperMismatch layout desk error = ⊤

-- the open chapter has no call, since it was cut off last
abbrev pub IsClosed : LockedValue → Type 0
IsClosed l = (l.journal ≡ []) × (l.base ≡ l.slave) × (0 < l.chapter)

-- Each call of this caller that was accepted stands in these chapters once: it has as many receipts, and they have as many calls of it.
abbrev pub IsOnce : List ChapterValue → CallerValue → Type 0
IsOnce chapters c = (c.accepted ≡ length c.receipts) × (length c.receipts ≡ calls_by c.number chapters)

-- These are the first so many callers of a slave, each with all receipts that it ever had: just those that the keeper took of it, and one
-- for each call.
pub record AreAllMembers (count : ℕ) (k : KeeperValue) (members : List CallerValue) : Type 0 where
  pub complete : length members ≡ count
  pub numbered : AreNumbered 0 members
  pub handed : AllByRecursion (IsHandedOver k) members
  pub once : AllByRecursion (IsOnce k.chapters) members

-- What is told of a server that stayed: so many chapters, at least one, one behind another from the opening of the layout, with so many calls, are one
-- run of the slave, and each is settled by all callers, with all receipts that the members ever had; so many of them were events
-- that found no room. The scribe was given just these chapters, in order. The members are the callers with which so many seats and so many
-- tasks did all that they did, and the one that told the time, where the layout has a clock.
pub record IsKept (layout : LayoutValue) (callers tools tasks : ℕ) (wrote : List Given → Type 0) (r : StayReport) : Type 0 where
  pub keeper : KeeperValue
  pub last : SlaveValue
  pub joined : AreJoined layout keeper.chapters r.chapters r.calls last
  pub some : 0 < r.chapters
  pub settled : AreKeptSettled keeper
  pub members : List CallerValue
  pub all : AreAllMembers (tools + tools + tasks + timekeepers layout) keeper members
  pub served : HaveAllServed layout callers tools tasks members
  pub lost : r.lost ≡ min (lost_in keeper.chapters) (2 ^ 64 - 1)
  pub written : wrote (given_in keeper.chapters)

-- What a server that stayed leaves: a slave of this layout, its keeper and so many members; `written` says what its scribe was given.
pub record LeavesKept (layout : LayoutValue) (count : ℕ) (written : List Given → Type 0) (k : KeeperValue) (l : LockedValue) (former : List CallerValue) : Type 0 where
  -- the chapters that the keeper took are one run from the layout's opening to where the open chapter begins
  pub joined : AreJoined layout k.chapters l.chapter l.before l.base
  -- each of them is settled by all callers
  pub settled : AreKeptSettled k
  -- the open chapter has no call
  pub closed : IsClosed l
  -- the keeper took all receipts that the members ever had
  pub members : AreAllMembers count k former
  -- the scribe was given just these chapters, in order
  pub wrote : written (given_in k.chapters)
  -- all images that were ever published for the tasks are those along the calls of these chapters
  pub images : AreImages (opening layout) (exchanges (entries_of k.chapters)) l.writer.publications
