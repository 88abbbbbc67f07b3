-- What a seat does for one tool after another.
use Rattle.std.specs.Prelude.{◌≡◌, ◌⊎◌, ◌<◌, ℕ, List, [], ◌∷◌, ◌++◌, Some, None, Result, Ok, Err, MatchResult}
use Rattle.xcp_slave.specs.declared.Exchange.{Exchange}
use Rattle.xcp_slave.specs.declared.Request.TheVariants as requests
use Rattle.xcp_framing.specs.Serve.{refused_with}
use Rattle.xcp_framing.specs.declared.serving.ServeError.{ServeError}
use Rattle.xcp_framing.specs.declared.serving.Served.{Served}
use Rattle.xcp_framing.specs.declared.station.StationError.{StationError}
use Rattle.xcp_locked.specs.Caller.{CallerValue}
use Rattle.xcp_locked.specs.Receipts.{exchanges_of}
use Rattle.xcp_locked.specs.Tasks.{Same}
use Rattle.xcp_connection.specs.Connections.{ServesConnection}
use Rattle.xcp_seats.specs.declared.hall.Departure.{Departure}
use Rattle.xcp_seats.specs.declared.hall.Departure.TheVariants as departures
use Rattle.xcp_seats.specs.Trails.{Repeats}

-- the two callers of a seat: its tools', and their pumps'
pub record Pair : Type 0 where
  pub tool : CallerValue
  pub pump : CallerValue

abbrev pub pair : CallerValue → CallerValue → Pair
pair tool pump = record { tool = tool; pump = pump }

-- a seat, with its number, and MAX_CTO of its slave
pub record SeatValue : Type 0 where
  pub number : ℕ
  pub tool : CallerValue
  pub pump : CallerValue
  pub max_cto : ℕ

-- the exchanges that a caller ever had
abbrev pub had : CallerValue → List Exchange
had c = exchanges_of c.receipts

-- one more exchange, of a Hangup
abbrev pub Hung : CallerValue → CallerValue → Type 0
Hung old new = (x : Exchange) × (x.request ≡ requests.Hangup) × (had new ≡ had old ++ x ∷ [])

-- A caller submitted a Hangup, and nothing where it was refused.
pub record HangsUp (result : Result (Unit {0}) StationError) (old new : CallerValue) : Type 0 where
  pub same : Same old new
  pub hung : MatchResult result (λ _. Hung old new) (λ _. had new ≡ had old)

-- A tool is gone: a Hangup was submitted where it was the last one, and nothing where others are there.
abbrev pub Departs : Departure → CallerValue → CallerValue → Type 0
Departs (departures.Others n) old new = (0 < n) × (new ≡ old)
Departs (departures.Last result) old new = HangsUp result old new

-- how a visit ended, as it is told: a Hangup that was refused is a fault where the connection had none
abbrev pub told_visit : Result Served ServeError → Departure → Result Served ServeError
told_visit (Err e) departure = Err e
told_visit (Ok served) (departures.Others n) = Ok served
told_visit (Ok served) (departures.Last (Ok x)) = Ok served
told_visit (Ok served) (departures.Last (Err e)) = Err (refused_with e)

-- A tool was served with MAX_CTO m by these two, which are the same ones: `read` is all that was read of its connection, and `written`
-- all that was written to it.
pub record Attends (m : ℕ) (outcome : Result Served ServeError) (from to : Pair) : Type 0 where
  pub read : List ℕ
  pub written : List ℕ
  pub serves : ServesConnection m outcome (record { left = None; read = [] }) (record { left = None; read = read }) (Some []) (Some written) (had from.tool) (had to.tool) (had from.pump) (had to.pump)
  pub same_tool : Same from.tool to.tool
  pub same_pump : Same from.pump to.pump

-- One visit of a tool: it was served, unless it couldn't be, and behind it the session was ended, where no other tool was there.
pub record Visits (m : ℕ) (from to : Pair) : Type 0 where
  pub outcome : Result Served ServeError
  pub mid : Pair
  pub served : (mid ≡ from) ⊎ Attends m outcome from mid
  pub departure : Departure
  pub gone : Departs departure mid.tool to.tool
  pub pump : to.pump ≡ mid.pump

-- All that a seat did: visit behind visit.
abbrev pub Sat : ℕ → Pair → Pair → Type 0
Sat m from to = Repeats (Visits m) from to
