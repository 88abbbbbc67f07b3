-- What came of a connection: of its reading, of its pump and of its sending.
use Rattle.std.specs.Prelude.{◌≡◌, ℕ, true, false, List, [], Option, Result, Ok, Err, IfErr}
use Rattle.xcp_slave.specs.declared.Exchange.{Exchange}
use Rattle.xcp_framing.specs.CountedCalls.{StreamPlace}
use Rattle.xcp_framing.specs.ServeParts.{IsInterruption}
use Rattle.xcp_framing.specs.declared.serving.ServeError.{ServeError}
use Rattle.xcp_framing.specs.declared.serving.ServeError.TheVariants as errors
use Rattle.xcp_framing.specs.declared.serving.Served.{Served}
use Rattle.xcp_outlet.specs.Sending.{SendsMessages}
use Rattle.xcp_outlet.specs.declared.fault.SendError.{SendError}
use Rattle.xcp_outlet.specs.declared.message.Message.{Message}
use Rattle.xcp_connection.specs.Hearing.{Hears}
use Rattle.xcp_connection.specs.Pumping.{PumpDrains}
use Rattle.xcp_connection.specs.Sending.{Delivered}

-- how a connection ended: the fault of its reading, else of its pump, else Write where its sender has one
abbrev pub outcome_of : Result Served ServeError → Result ℕ ServeError → Result ℕ SendError → Result Served ServeError
outcome_of (Err e) pumped sent = Err e
outcome_of (Ok served) (Err e) sent = Err e
outcome_of (Ok served) (Ok n) (Err e) = Err errors.Write
outcome_of (Ok served) (Ok n) (Ok m) = Ok served

-- A connection was served with MAX_CTO m, by a tool's caller and a pump's: `old` and `new` are the exchanges of the first, `drained` and
-- `drained'` those of the second, `from` and `to` where its stream stood, `before` and `after` what its writer contains.
pub record ServesConnection (m : ℕ) (outcome : Result Served ServeError) (from to : StreamPlace) (before after : Option (List ℕ)) (old new drained drained' : List Exchange) : Type 0 where
  pub heard : Result Served ServeError
  pub pumped : Result ℕ ServeError
  pub sent : Result ℕ SendError
  -- what was put of answers and of data packets, and what the sender took
  pub replies : List (List ℕ)
  pub samples : List (List ℕ)
  pub taken : List Message
  -- the writer's failed calls
  pub failures : ℕ
  pub failures' : ℕ
  -- the commands of the frames that were read were submitted, and the packets of the answers put
  pub hears : Hears m heard from to old new [] replies
  -- the packets that waited were drained, and put
  pub drains : PumpDrains pumped drained drained' [] samples
  pub stops : IfErr pumped IsInterruption
  -- what was taken of what was put was written in frames, numbered from 0
  pub sends : SendsMessages sent taken before after failures failures'
  pub replied : Delivered false taken replies
  pub sampled : Delivered true taken samples
  -- a fault is told
  pub told : outcome ≡ outcome_of heard pumped sent
