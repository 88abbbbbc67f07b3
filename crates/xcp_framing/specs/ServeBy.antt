-- What `serve_by` does with a stream: it is `serve` without Drains, and the packets of the answers are put.
use Rattle.std.specs.Prelude.{◌≡◌, ◌≢◌, ℕ, List, [], ◌∷◌, ◌++◌, map, Result, Err}
use Rattle.xcp_slave.specs.declared.Exchange.{Exchange}
use Rattle.xcp_slave.specs.declared.Request.{Request}
use Rattle.xcp_slave.specs.declared.Request.TheVariants as requests
use Rattle.xcp_slave.specs.Run.{requests_of}
use Rattle.xcp_framing.specs.declared.serving.Served.{Served}
use Rattle.xcp_framing.specs.declared.serving.ServeError.{ServeError}
use Rattle.xcp_framing.specs.declared.serving.ServeError.TheVariants as errors
use Rattle.xcp_framing.specs.CountedCalls.{StreamPlace}
use Rattle.xcp_framing.specs.Frames.{frames, rest}
use Rattle.xcp_framing.specs.Serve.{packets_in_answers, OnRead, EndsStream, Counts, IsReadOf}

-- each read of a stream that `serve_by` answers is of 4,096 bytes
abbrev pub IsHearingRead : ℕ → Type 0
IsHearingRead = IsReadOf 4096

abbrev pub command : List ℕ → Request
command packet = requests.Command (record { items = packet })

-- the packets' commands
abbrev pub commands : List (List ℕ) → List Request
commands packets = map command packets

-- the exchanges are those of all the packets' commands, and the packets of their answers were put
pub record PutsAll (packets : List (List ℕ)) (exchanges : List Exchange) (before after : List (List ℕ)) : Type 0 where
  pub asked : requests_of exchanges ≡ commands packets
  pub put : after ≡ before ++ packets_in_answers exchanges

-- Of these packets the first were put, and the others, which are some, were not: a batch of them was handed back, or had no memory.
pub record IsHandedBack (packets : List (List ℕ)) (before after : List (List ℕ)) : Type 0 where
  pub front : List (List ℕ)
  pub back : List (List ℕ)
  pub joined : packets ≡ front ++ back
  pub some : back ≢ []
  pub put : after ≡ before ++ front

-- those of the first packets, of whose answers' packets a batch was handed back, or had no memory
pub record PutsUpTo (packets : List (List ℕ)) (exchanges : List Exchange) (before after : List (List ℕ)) : Type 0 where
  pub done : List (List ℕ)
  pub later : List (List ℕ)
  pub packets_are : packets ≡ done ++ later
  pub asked : requests_of exchanges ≡ commands done
  pub handed : IsHandedBack (packets_in_answers exchanges) before after

-- those of the first packets
pub record PutsSome (packets : List (List ℕ)) (exchanges : List Exchange) (before after : List (List ℕ)) : Type 0 where
  pub done : List (List ℕ)
  pub later : List (List ℕ)
  pub packets_are : packets ≡ done ++ later
  pub answered : PutsAll done exchanges before after

abbrev pub PutsSoFar : {R : Type 0} → Result R ServeError → List (List ℕ) → List Exchange → List (List ℕ) → List (List ℕ) → Type 0
PutsSoFar (Err errors.Write) packets exchanges before after = PutsUpTo packets exchanges before after
PutsSoFar (Err errors.Memory) packets exchanges before after = PutsSome packets exchanges before after
PutsSoFar (Err errors.JournalFull) packets exchanges before after = PutsSome packets exchanges before after
PutsSoFar (Err errors.NoRoom) packets exchanges before after = PutsUpTo packets exchanges before after
PutsSoFar _ packets exchanges before after = PutsAll packets exchanges before after

-- One call of `serve_by`, where MAX_CTO is m: `from` and `to` are where the stream stands before and after, `old` and `new` are the station's exchanges, `before` and `after` the packets put.
pub record ServesBy (m : ℕ) (result : Result Served ServeError) (from to : StreamPlace) (old new : List Exchange) (before after : List (List ℕ)) : Type 0 where
  -- the packets of the bytes read, and what stands behind them
  pub packets : List (List ℕ)
  pub behind : List ℕ
  pub read : OnRead from to (λ stream. (packets ≡ frames m stream) × (behind ≡ rest m stream))
  -- the exchanges of this call
  pub exchanges : List Exchange
  pub grown : new ≡ old ++ exchanges
  pub puts : PutsSoFar result packets exchanges before after
  pub ends : EndsStream m result behind
  pub counts : Counts result packets (packets_in_answers exchanges)

-- The request that comes next behind these exchanges: the command of the packet behind those that were answered.
pub record CommandNext (m : ℕ) (from to : StreamPlace) (exchanges : List Exchange) (request : Request) : Type 0 where
  pub packets : List (List ℕ)
  pub read : OnRead from to (λ stream. packets ≡ frames m stream)
  pub done : List (List ℕ)
  pub packet : List ℕ
  pub later : List (List ℕ)
  pub packets_are : packets ≡ done ++ packet ∷ later
  pub asked : requests_of exchanges ≡ commands done
  pub next : request ≡ command packet
