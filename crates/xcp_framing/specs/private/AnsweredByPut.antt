-- Packets that are answered by their commands alone, where the packets of the answers are gathered and put.
use Rattle.std.specs.Prelude.{◌≡◌, ◌≢◌, ◌+◌, ℕ, List, [], ◌∷◌, ◌++◌, length, OnOk, OnErr, IfErr, Result, Ok, Err}
use Rattle.xcp_slave.specs.declared.Exchange.{Exchange}
use Rattle.xcp_slave.specs.declared.Request.{Request}
use Rattle.xcp_slave.specs.Run.{requests_of}
use Rattle.xcp_framing.specs.declared.station.StationError.{StationError}
use Rattle.xcp_framing.specs.declared.serving.ServeError.{ServeError}
use Rattle.xcp_framing.specs.Serve.{packets_in_answers}
use Rattle.xcp_framing.specs.ServeBy.{command, commands}
use Rattle.xcp_framing.specs.ServeRefusal.{OnRefusal, StationRefused}
use Rattle.xcp_framing.specs.private.AnsweredStream.{AnswerStand}
use Rattle.xcp_framing.specs.private.PutOutput.{IsLeftUnput, MovesSoFar}

-- The request that comes next behind these exchanges: the command of the packet behind those that were answered.
pub record NextCommand (packets : List (List ℕ)) (exchanges : List Exchange) (request : Request) : Type 0 where
  pub done : List (List ℕ)
  pub packet : List ℕ
  pub later : List (List ℕ)
  pub packets_are : packets ≡ done ++ packet ∷ later
  pub asked : requests_of exchanges ≡ commands done
  pub next : request ≡ command packet

-- the exchanges are those of the first packets' commands
pub record AsksFirst (packets : List (List ℕ)) (exchanges : List Exchange) : Type 0 where
  pub done : List (List ℕ)
  pub later : List (List ℕ)
  pub packets_are : packets ≡ done ++ later
  pub asked : requests_of exchanges ≡ commands done

-- those of all the packets' commands, unless something ended the call
abbrev pub AsksSoFar : {A : Type 0} → Result A ServeError → List (List ℕ) → List Exchange → Type 0
AsksSoFar (Ok done) packets exchanges = requests_of exchanges ≡ commands packets
AsksSoFar (Err e) packets exchanges = AsksFirst packets exchanges

-- Packets were answered, up to the interruption that ended it: by which exchanges, by the same station, whose packets were
-- put at the same end or are held; how many those are; and the request that the station refused, if it did.
pub record AnswersByPut {S K O : Type 0} (exchanges_of : S → List Exchange) (refuses : S → Request → StationError → Type 0) (same_station : S → S → Type 0) (put_of : O → List (List ℕ)) (same_out : O → O → Type 0) (sent_of : K → ℕ) (held_of : K → List (List ℕ)) (result : Result (Unit {0}) ServeError) (packets : List (List ℕ)) (old new : AnswerStand S K O) : Type 0 where
  pub exchanges : List Exchange
  pub grown : exchanges_of new.station ≡ exchanges_of old.station ++ exchanges
  pub asks : AsksSoFar result packets exchanges
  pub moves : MovesSoFar result (put_of old.out) (held_of old.state) (put_of new.out) (held_of new.state) (packets_in_answers exchanges)
  pub stays : same_station old.station new.station
  pub kept : same_out old.out new.out
  pub counted : OnOk result (sent_of new.state ≡ sent_of old.state + length (packets_in_answers exchanges))
  pub refused : OnRefusal result (λ e. StationRefused exchanges_of refuses e (NextCommand packets) (exchanges_of old.station) new.station)

-- What was held was put, or none of it, and nothing is held then.
pub record HandsBatchOn {K O : Type 0} (put_of : O → List (List ℕ)) (same_out : O → O → Type 0) (sent_of : K → ℕ) (held_of : K → List (List ℕ)) (result : Result (Unit {0}) ServeError) (state : K) (out : O) (state' : K) (out' : O) : Type 0 where
  pub ok : OnOk result (put_of out' ≡ put_of out ++ held_of state)
  pub back : OnErr result ((put_of out' ≡ put_of out) × (held_of state ≢ []))
  pub held : held_of state' ≡ []
  pub sent : sent_of state' ≡ sent_of state
  pub err : IfErr result IsLeftUnput
  pub kept : same_out out out'
