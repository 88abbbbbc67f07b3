-- What the part of a connection that hears the tool did, for whatever station.
use Rattle.std.specs.Prelude.{◌≡◌, ◌≢◌, ◌⊎◌, ◌<◌, ℕ, List, ◌++◌, Option, Result, Err}
use Rattle.xcp_slave.specs.declared.Exchange.{Exchange}
use Rattle.xcp_slave.specs.declared.Request.{Request}
use Rattle.xcp_framing.specs.CountedCalls.{StreamPlace, Watched, stream_place}
use Rattle.xcp_framing.specs.Frames.{frames, rest}
use Rattle.xcp_framing.specs.Serve.{EndsReader, EndsStream, OnRead, ReadsWithin}
use Rattle.xcp_framing.specs.ServeBy.{CommandNext, PutsSoFar, ServesBy}
use Rattle.xcp_framing.specs.ServeRefusal.{OnRefusal}
use Rattle.xcp_framing.specs.declared.serving.ServeError.{ServeError}
use Rattle.xcp_framing.specs.declared.serving.ServeError.TheVariants as errors
use Rattle.xcp_framing.specs.declared.serving.Served.{Served}
use Rattle.xcp_framing.specs.declared.station.StationError.TheVariants as refusals
use Rattle.xcp_outlet.specs.OutletEnds.{EndSeen}
use Rattle.xcp_connection.specs.declared.hearing.Heard.{Heard}

-- A stream was heard with MAX_CTO m, in as many passages as it had: the bytes that were read are frames, whose packets' commands were
-- submitted, in order, and the packets of the answers were put. `old` and `new` are the station's exchanges, `before` and `after` the
-- packets put.
pub record Hears (m : ℕ) (outcome : Result Served ServeError) (from to : StreamPlace) (old new : List Exchange) (before after : List (List ℕ)) : Type 0 where
  -- the packets of the bytes read, and what stands behind them
  pub packets : List (List ℕ)
  pub behind : List ℕ
  pub read : OnRead from to (λ stream. (packets ≡ frames m stream) × (behind ≡ rest m stream))
  pub exchanges : List Exchange
  pub grown : new ≡ old ++ exchanges
  pub puts : PutsSoFar outcome packets exchanges before after
  pub ends : EndsStream m outcome behind

-- A command of the stream was refused: the commands before it were executed, and it is the next one.
pub record StopsAt (m : ℕ) (from to : StreamPlace) (old new : List Exchange) : Type 0 where
  pub exchanges : List Exchange
  pub grown : new ≡ old ++ exchanges
  pub request : Request
  pub next : CommandNext m from to exchanges request

-- Memory and JournalFull come where a command was refused, of which `Stops` tells; Memory also before anything was done, of which
-- `Before` tells.
abbrev pub RefusedWhere : Result Served ServeError → Type 0 → Type 0 → Type 0
RefusedWhere result Before Stops = OnRefusal result (λ e. ((e ≡ refusals.Memory) × Before) ⊎ Stops)

-- of readers whose bytes a contract can see
module _ {I : Type 0} (remaining : I → Option (List ℕ)) where
  -- One passage, of at most `turns` reads: how many frames it had, which reads failed, and which command was refused, if one was.
  pub record Passage (m turns : ℕ) (outcome : Result Served ServeError) (reader reader' : Watched I) (old new : List Exchange) (before after : List (List ℕ)) : Type 0 where
    pub serves : ServesBy m outcome (stream_place remaining reader) (stream_place remaining reader') old new before after
    pub reads : ReadsWithin turns outcome reader reader'
    pub refused : RefusedWhere outcome ((reader' ≡ reader) × (new ≡ old) × (after ≡ before)) (StopsAt m (stream_place remaining reader) (stream_place remaining reader') old new)

  -- Of stations, by the exchanges that they had, and by which of them are one and the same. `many` is so where the stream may have
  -- more than one passage.
  module _ {S : Type 0} (exchanges : S → List Exchange) (same : S → S → Type 0) where
    -- A stream was heard, for this station, which is the same one.
    pub record HeardFor (many : Type 0) (m turns : ℕ) (reader : Watched I) (station : S) (replies : EndSeen) (d : Heard S I) : Type 0 where
      pub hears : Hears m d.outcome (stream_place remaining reader) (stream_place remaining d.reader.value) (exchanges station) (exchanges d.station) replies.put d.put.put
      -- Ok and Truncated come at the reader's end, Read only where a read failed
      pub ends : EndsReader d.outcome (remaining d.reader.value.inner)
      pub failed : d.outcome ≡ Err errors.Read → reader.failures < d.reader.value.failures
      pub fine : d.outcome ≢ Err errors.Read → d.reader.value.failures ≡ reader.failures
      pub single : many ⊎ Passage m turns d.outcome reader d.reader.value (exchanges station) (exchanges d.station) replies.put d.put.put
      pub stays : same station d.station
      pub outlet : d.put.outlet ≡ replies.outlet
      pub side : d.put.side ≡ replies.side
