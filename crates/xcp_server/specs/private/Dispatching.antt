-- Which outlet each connection has, how its writer was when it began, and what was written for it.
use Rattle.std.specs.Prelude.{◌≡◌, ℕ, zero, suc, true, false, List, [], ◌∷◌, Option, None}
use Rattle.xcp_framing.specs.CountedCalls.{Watched}
use Rattle.xcp_outlet.specs.OutletEnds.{EndSeen, Outlet, Taking, no_outlet}
use Rattle.xcp_connection.specs.Parts.{Parted}
use Rattle.xcp_connection.specs.Sending.{WroteAs}
use Rattle.xcp_connection.specs.declared.hearing.Heard.{Heard}
use Rattle.xcp_connection.specs.declared.pumping.Pumped.{Pumped}

-- the three ends of an outlet
abbrev pub ThreeEnds : Type 0
ThreeEnds = EndSeen × EndSeen × Taking

-- the ends are of one outlet, and nothing was put
pub record IsFreshDispatch (e : ThreeEnds) : Type 0 where
  pub replies : e.0 ≡ record { outlet = e.2.outlet; side = false; put = [] }
  pub samples : e.1 ≡ record { outlet = e.2.outlet; side = true; put = [] }

-- two ends of one outlet, which have put nothing
pub record IsUnput (e : EndSeen × EndSeen) : Type 0 where
  pub replies : e.0 ≡ record { outlet = e.0.outlet; side = false; put = [] }
  pub samples : e.1 ≡ record { outlet = e.0.outlet; side = true; put = [] }

-- the outlet at a place
abbrev pub outlet_at : List ThreeEnds → ℕ → Outlet
outlet_at [] i = no_outlet
outlet_at (e ∷ es) zero = e.2.outlet
outlet_at (e ∷ es) (suc i) = outlet_at es i

-- how often the writer at a place had failed
abbrev pub failures_at : {I O : Type 0} → List (Watched I × Watched O) → ℕ → ℕ
failures_at [] i = 0
failures_at (s ∷ ss) zero = s.1.failures
failures_at (s ∷ ss) (suc i) = failures_at ss i

-- of writers whose bytes a contract can see
module _ {O : Type 0} (contents : O → Option (List ℕ)) where
  -- what the writer at a place contained
  abbrev pub before_at : {I : Type 0} → List (Watched I × Watched O) → ℕ → Option (List ℕ)
  before_at [] i = None
  before_at (s ∷ ss) zero = contents s.1.inner
  before_at (s ∷ ss) (suc i) = before_at ss i

  -- The connection at a place has these two parts, and this was written for it.
  pub record IsPartedAt {S I : Type 0} (outlet : ℕ → Outlet) (before : ℕ → Option (List ℕ)) (failures : ℕ → ℕ) (place : ℕ) (parts : Heard S I × Pumped S) (d : Parted S I O) : Type 0 where
    pub heard : d.0 ≡ parts.0
    pub pumped : d.1 ≡ parts.1
    pub wrote : WroteAs contents (outlet place) (before place) (failures place) d.2
