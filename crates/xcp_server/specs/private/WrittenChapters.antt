-- What a scribe was given while a server ran.
use Rattle.std.specs.Prelude.{List, [], ◌∷◌, map, Option, Some, None}
use Rattle.relay.specs.Ends.{RelayId}
use Rattle.xcp_locked.specs.Excerpts.{ExcerptValue, ExcerptsValue, Way}
use Rattle.xcp_locked.specs.declared.tasks.Task.{Task}
use Rattle.xcp_scribe.specs.Given.{Given}

abbrev pub given_of : ExcerptValue → Given
given_of e = record { calls = e.calls; last = e.last }

-- what a scribe is given of the excerpts that were taken
abbrev pub given_by : Option ExcerptsValue → List Given
given_by None = []
given_by (Some e) = map given_of e.taken

-- by which relay excerpts come, if they come from anywhere
abbrev pub relay_of : Option ExcerptsValue → Option RelayId
relay_of None = None
relay_of (Some e) = Some e.relay

-- by which relay they go
abbrev pub relay_to : Option Way → Option RelayId
relay_to None = None
relay_to (Some way) = Some way.relay

-- by which way the excerpts of the first task's chapters go
abbrev pub first_way : {N G : Type 0} → List (Task N G) → Option Way
first_way [] = None
first_way (t ∷ more) = t.worker.chapters.way
