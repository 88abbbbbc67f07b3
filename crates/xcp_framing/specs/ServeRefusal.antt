-- Where a station's refusal ends a call of `serve`: what the station had done by then, and which request it refused.
use Rattle.std.specs.Prelude.{◌≡◌, ◌<◌, ℕ, List, [], ◌∷◌, ◌++◌, All, length, Result, Err, ⊤}
use Rattle.xcp_slave.specs.declared.Exchange.{Exchange}
use Rattle.xcp_slave.specs.declared.Request.{Request}
use Rattle.xcp_slave.specs.declared.Request.TheVariants as requests
use Rattle.xcp_framing.specs.declared.station.StationError.{StationError}
use Rattle.xcp_framing.specs.declared.station.StationError.TheVariants as refusals
use Rattle.xcp_framing.specs.declared.serving.ServeError.{ServeError}
use Rattle.xcp_framing.specs.declared.serving.ServeError.TheVariants as errors
use Rattle.xcp_framing.specs.CountedCalls.{StreamPlace}
use Rattle.xcp_framing.specs.Frames.{frames}
use Rattle.xcp_framing.specs.Serve.{GavePacket, AnswersAll, OnRead, most_drains}

-- the number of a refusal
abbrev pub refusal_number : StationError → ℕ
refusal_number refusals.Memory = 1
refusal_number refusals.JournalFull = 2

-- a fact about the refusal that ended a call, if one did
abbrev pub OnRefusal : {A : Type 0} → Result A ServeError → (StationError → Type 0) → Type 0
OnRefusal (Err errors.Memory) Fact = Fact refusals.Memory
OnRefusal (Err errors.JournalFull) Fact = Fact refusals.JournalFull
OnRefusal _ Fact = ⊤

-- Behind these Drains, each of which gave a packet, one more comes: they aren't the most yet.
abbrev pub DrainsNext : List Exchange → Request → Type 0
DrainsNext drains request = All GavePacket drains × (length drains < most_drains) × (request ≡ requests.Drain)

-- of one packet, behind these exchanges: its command, or a Drain behind the command
abbrev pub AsksOne : List ℕ → List Exchange → Request → Type 0
AsksOne packet [] request = request ≡ requests.Command (record { items = packet })
AsksOne packet (x ∷ drains) request = (x.request ≡ requests.Command (record { items = packet })) × DrainsNext drains request

-- The request that comes next behind these exchanges: the first packets were answered, each with the Drains behind it, and
-- of the packet behind them the start.
pub record AsksNext (packets : List (List ℕ)) (exchanges : List Exchange) (request : Request) : Type 0 where
  pub done : List (List ℕ)
  pub packet : List ℕ
  pub later : List (List ℕ)
  pub full : List Exchange
  pub cut : List Exchange
  pub packets_are : packets ≡ done ++ packet ∷ later
  pub joined : exchanges ≡ full ++ cut
  pub answered : AnswersAll done full
  pub asks : AsksOne packet cut request

-- the request that comes next behind these exchanges, for the packets of the bytes read, where MAX_CTO is m
pub record ReadsNext (m : ℕ) (from to : StreamPlace) (exchanges : List Exchange) (request : Request) : Type 0 where
  pub packets : List (List ℕ)
  pub read : OnRead from to (λ stream. packets ≡ frames m stream)
  pub asks : AsksNext packets exchanges request

-- A station, of which `exchanges_of` and `refuses` tell, refused the request that comes next: as it is now, it may refuse this
-- request so. Its exchanges are the old ones and those of the call.
pub record StationRefused {S : Type 0} (exchanges_of : S → List Exchange) (refuses : S → Request → StationError → Type 0) (error : StationError) (Next : List Exchange → Request → Type 0) (old : List Exchange) (now : S) : Type 0 where
  pub exchanges : List Exchange
  pub grown : exchanges_of now ≡ old ++ exchanges
  pub request : Request
  pub next : Next exchanges request
  pub may : refuses now request error
