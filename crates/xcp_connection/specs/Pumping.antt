-- What the pump of a connection did, for whatever station.
use Rattle.std.specs.Prelude.{◌≡◌, ◌⊎◌, ℕ, Bool, true, List, ◌++◌, Result, IfErr}
use Rattle.xcp_slave.specs.declared.Exchange.{Exchange}
use Rattle.xcp_framing.specs.Pump.{Pumped as PutsDrained, Pumps}
use Rattle.xcp_framing.specs.ServeParts.{IsInterruption}
use Rattle.xcp_framing.specs.declared.serving.ServeError.{ServeError}
use Rattle.xcp_outlet.specs.OutletEnds.{EndSeen}
use Rattle.xcp_connection.specs.declared.pumping.Pumped.{Pumped}

-- Drains were submitted, in as many calls of `pump` as there were, and the packets of their answers were put, in order.
pub record PumpDrains (outcome : Result ℕ ServeError) (old new : List Exchange) (before after : List (List ℕ)) : Type 0 where
  pub exchanges : List Exchange
  pub grown : new ≡ old ++ exchanges
  pub puts : PutsDrained outcome exchanges before after

-- of stations, by their exchanges and by which of them are one and the same
module _ {S : Type 0} (exchanges : S → List Exchange) (same : S → S → Type 0) where
  -- What a pump did for this station, which is the same one, and what its end has put. Where it doesn't go on it is one call.
  pub record PumpedFor (goes_on : Bool) (station : S) (samples : EndSeen) (d : Pumped S) : Type 0 where
    pub drains : PumpDrains d.outcome (exchanges station) (exchanges d.station) samples.put d.put.put
    pub single : (goes_on ≡ true) ⊎ Pumps d.outcome (exchanges station) (exchanges d.station) samples.put d.put.put
    -- a batch was handed back, or had no memory, or a Drain was refused
    pub stops : IfErr d.outcome IsInterruption
    pub stays : same station d.station
    pub outlet : d.put.outlet ≡ samples.outlet
    pub side : d.put.side ≡ samples.side
