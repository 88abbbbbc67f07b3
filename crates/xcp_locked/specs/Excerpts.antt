-- Excerpts of chapters, as they go to whoever writes them down.
use Rattle.std.specs.Prelude.{◌≡◌, Bool, true, false, ⊤, List, [], map, Option, Some, None, MatchOption}
use Rattle.relay.specs.Ends.{RelayId}
use mathlib.Core.List.{IsPrefix}
use Rattle.xcp_slave.specs.SlaveValue.{SlaveValue}
use Rattle.xcp_trace.specs.declared.Entry.{Entry}
use Rattle.xcp_locked.specs.LockedSlave.{ChapterValue}

-- Of a chapter: its calls, in order, and the slave with which it ends.
pub record ExcerptValue : Type 0 where
  pub calls : List Entry
  pub last : SlaveValue

abbrev pub excerpt_of : ChapterValue → ExcerptValue
excerpt_of c = record { calls = c.entries; last = c.last }

abbrev pub excerpts_of : List ChapterValue → List ExcerptValue
excerpts_of chapters = map excerpt_of chapters

-- Who hands excerpts in: by which relay, all that were handed in, in order, and whether a store ends a chapter.
pub record HandingValue : Type 0 where
  pub relay : RelayId
  pub given : List ExcerptValue
  pub each_store : Bool

-- Who takes them: by which relay, and all that were taken, in order.
pub record ExcerptsValue : Type 0 where
  pub relay : RelayId
  pub taken : List ExcerptValue

-- nothing was handed in yet
abbrev pub HandsNone : Option HandingValue → Type 0
HandsNone handing = MatchOption handing ⊤ (λ h. h.given ≡ [])

-- By which relay excerpts go, and whether a store ends a chapter.
pub record Way : Type 0 where
  pub relay : RelayId
  pub each_store : Bool

abbrev pub way_of : Option HandingValue → Option Way
way_of None = None
way_of (Some h) = Some (record { relay = h.relay; each_store = h.each_store })

-- Chapters that a task has cut, in order, and by which way their excerpts go, if they go anywhere.
pub record ChaptersValue : Type 0 where
  pub items : List ChapterValue
  pub way : Option Way

-- no chapter was cut yet
abbrev pub none_cut : Option Way → ChaptersValue
none_cut way = record { items = []; way = way }

-- whether a store ends a chapter, however few calls this has
abbrev pub cuts_at_stores : Option Way → Bool
cuts_at_stores None = false
cuts_at_stores (Some way) = way.each_store

-- The excerpts that were handed in are of the first of these chapters, and of all of them where none was refused.
pub record AreHandedIn (whole : Bool) (given : List ExcerptValue) (chapters : List ChapterValue) : Type 0 where
  pub first : IsPrefix given (excerpts_of chapters)
  pub all : whole ≡ true → given ≡ excerpts_of chapters

-- the same of who hands them in, if there is somebody
abbrev pub KeepsPace : Bool → Option HandingValue → List ChapterValue → Type 0
KeepsPace whole handing chapters = MatchOption handing ⊤ (λ h. AreHandedIn whole h.given chapters)
