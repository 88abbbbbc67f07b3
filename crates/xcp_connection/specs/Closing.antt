-- The parts of a connection, put together again.
use Rattle.std.specs.Prelude.{◌≡◌, true, false}
use Rattle.xcp_connection.specs.declared.closing.Closed.{Closed}
use Rattle.xcp_connection.specs.Connections.{outcome_of}
use Rattle.xcp_connection.specs.Parts.{Parted}
use Rattle.xcp_connection.specs.Sending.{Delivered}

-- the three ends of one outlet, of which the first two have put no more
pub record AreOfOneOutlet {S I O : Type 0} (d : Parted S I O) : Type 0 where
  pub replies : d.2.sent.took.outlet ≡ d.0.put.outlet
  pub samples : d.2.sent.took.outlet ≡ d.1.put.outlet
  pub reply_side : d.0.put.side ≡ false
  pub sample_side : d.1.put.side ≡ true

-- what came of the three parts of a connection, put together
pub record IsClosingOf {S I O : Type 0} (d : Parted S I O) (c : Closed S I O) : Type 0 where
  pub tool : c.tool ≡ d.0.station
  pub pump : c.pump ≡ d.1.station
  pub heard : c.heard ≡ d.0.outcome
  pub pumped : c.pumped ≡ d.1.outcome
  pub sent : c.sent ≡ d.2.sent.count
  pub outcome : c.outcome ≡ outcome_of c.heard c.pumped c.sent
  pub reader : c.left.reader.value ≡ d.0.reader.value
  pub writer : c.left.writer.value ≡ d.2.writer.value
  pub replies_are : c.left.replies.value.put ≡ d.0.put.put
  pub samples_are : c.left.samples.value.put ≡ d.1.put.put
  pub taken_is : c.left.took.value.taken ≡ d.2.sent.took.taken
  pub replies : Delivered false c.left.took.value.taken c.left.replies.value.put
  pub samples : Delivered true c.left.took.value.taken c.left.samples.value.put
