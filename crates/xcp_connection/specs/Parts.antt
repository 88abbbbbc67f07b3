-- The two parts of a connection before they begin, and what they give back, whatever they are.
use Rattle.std.specs.Prelude.{◌≡◌, ℕ, true, false, [], List, Option}
use Rattle.xcp_slave.specs.declared.Exchange.{Exchange}
use Rattle.xcp_framing.specs.CountedCalls.{Watched}
use Rattle.xcp_outlet.specs.OutletEnds.{Outlet}
use Rattle.xcp_connection.specs.declared.connection.Limits.{Limits}
use Rattle.xcp_connection.specs.declared.hearing.Heard.{Heard}
use Rattle.xcp_connection.specs.declared.hearing.Hearing.{Hearing}
use Rattle.xcp_connection.specs.declared.pumping.Pumped.{Pumped}
use Rattle.xcp_connection.specs.declared.pumping.Pumping.{Pumping}
use Rattle.xcp_connection.specs.declared.sending.Wrote.{Wrote}
use Rattle.xcp_connection.specs.Hearing.{HeardFor}
use Rattle.xcp_connection.specs.Pumping.{PumpedFor}

-- the two parts of a connection
abbrev pub Connection : Type 0 → Type 0 → Type 0 → Type 0 → Type 0 → Type 0 → Type 0
Connection N T S I P F = Hearing N T S I P F × Pumping S F

-- what comes of them, and of the writing of what they put
abbrev pub Parted : Type 0 → Type 0 → Type 0 → Type 0
Parted S I O = Heard S I × Pumped S × Wrote O

-- the connection of this reader, for these stations, within these limits, with the two ends of this outlet, which have put nothing
pub record IsConnectionOf {N T S I P F : Type 0} (limits : Limits) (reader : Watched I) (outlet : Outlet) (heard_by drained_by : S) (c : Connection N T S I P F) : Type 0 where
  pub reader_is : c.0.reader ≡ reader
  pub tool : c.0.station ≡ heard_by
  pub pump : c.1.station ≡ drained_by
  pub max_cto : c.0.max_cto ≡ limits.max_cto
  pub reads : c.0.turns ≡ limits.turns
  pub drains : c.1.turns ≡ limits.pump_turns
  pub goes_on : c.1.goes_on ≡ limits.goes_on
  pub replies : c.0.replies ≡ record { outlet = outlet; side = false; put = [] }
  pub samples : c.1.samples ≡ record { outlet = outlet; side = true; put = [] }

-- what came of the parts of a connection
pub record CameOf {N T S I P F : Type 0} (exchanges : S → List Exchange) (same : S → S → Type 0) (many : Type 0) (remaining : I → Option (List ℕ)) (c : Connection N T S I P F) (d : Heard S I × Pumped S) : Type 0 where
  pub heard : HeardFor remaining exchanges same many c.0.max_cto c.0.turns c.0.reader c.0.station c.0.replies d.0
  pub pumped : PumpedFor exchanges same c.1.goes_on c.1.station c.1.samples d.1
