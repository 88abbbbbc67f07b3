-- What happened at the seats of a slave, and whose CONNECT was the last one, read off that alone.
use Rattle.std.specs.Prelude.{ℕ, Bool, false, not, ◌&&◌, ◌==◌, List, [], ◌∷◌, Option, Some, None, if◌then◌else◌}
use Rattle.std.specs.List.{list_any}
use Rattle.xcp_slave.specs.Outcomes.{Answer}
use Rattle.xcp_slave.specs.declared.request.Request.{Request}
use Rattle.xcp_service.specs.Sessions.{connects, ends, noted, without}

-- a call of a seat with its answer, or that a seat's tool went
pub data Happening : Type 0 where
  called : ℕ → Request → Answer → Happening
  went : ℕ → Happening

-- the seats that have connected and whose tools are still there, behind all that happened, the last thing first
abbrev pub seats_after : List Happening → List ℕ
seats_after [] = []
seats_after (called seat request answer ∷ before) = noted seat request answer (seats_after before)
seats_after (went seat ∷ before) = without seat (seats_after before)

abbrev pub has_gone : ℕ → List ℕ → Bool
has_gone seat seats = list_any (λ s. seat == s) seats

-- Who connected last, looking back from now: the seat of the first CONNECT that is met and whose tool hasn't gone since. Nobody did, where
-- the end of a session is met before.
abbrev pub connected_last : List ℕ → List Happening → Option ℕ
connected_last gone [] = None
connected_last gone (called seat request answer ∷ before) =
    if ends request answer then None
    else (if connects request answer && not (has_gone seat gone) then Some seat
    else connected_last gone before)
connected_last gone (went seat ∷ before) = connected_last (seat ∷ gone) before

-- it is this seat
abbrev pub is_seat : ℕ → Option ℕ → Bool
is_seat seat None = false
is_seat seat (Some other) = other == seat
