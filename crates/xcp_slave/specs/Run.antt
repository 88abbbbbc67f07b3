-- Runs of a slave: exchanges one after another.
use Rattle.std.specs.Prelude.{◌≡◌, List, [], ◌∷◌, map}
use Rattle.xcp_slave.specs.declared.request.Request.{Request}
use Rattle.xcp_slave.specs.declared.exchange.Exchange.{Exchange}
use Rattle.xcp_slave.specs.SlaveValue.{SlaveValue}
use Rattle.xcp_slave.specs.Step.{Answers}

-- the exchanges lead from v to w, one step each
abbrev pub Run : SlaveValue → List Exchange → SlaveValue → Type 0
Run v [] w = w ≡ v
Run v (x ∷ xs) w = (mid : SlaveValue) × Answers v x.request x.answer mid × Run mid xs w

-- the requests of exchanges, in order
abbrev pub requests_of : List Exchange → List Request
requests_of xs = map (λ x. x.request) xs
