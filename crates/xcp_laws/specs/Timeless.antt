-- Runs without what a slave is told of the time.
-- (ASAM MCD-1 XCP, protocol layer: time stamps.)
use Rattle.std.specs.Prelude.{ℕ, Bool, true, false, not, List, [], ◌∷◌, filter}
use Rattle.xcp_slave.specs.declared.Exchange.{Exchange}
use Rattle.xcp_slave.specs.declared.Request.{Request}
use Rattle.xcp_slave.specs.declared.Request.TheVariants as requests
use Rattle.xcp_slave.specs.Step.{later}

-- whether the request tells a time
abbrev pub tells_time : Request → Bool
tells_time (requests.Time time) = true
tells_time _ = false

-- the exchanges but those whose request tells a time
abbrev pub timeless : List Exchange → List Exchange
timeless xs = filter (λ x. not (tells_time x.request)) xs

-- a time, or the one that the request tells if that is later
abbrev pub later_by : ℕ → Request → ℕ
later_by now (requests.Time time) = later now time
later_by now _ = now

-- the latest of a time and of those that the exchanges tell
abbrev pub latest : ℕ → List Exchange → ℕ
latest now [] = now
latest now (x ∷ xs) = latest (later_by now x.request) xs
