-- What `serve` does with a stream: the exchanges that it makes, and what it writes (ASAM MCD-1 XCP, transport layer, XCP on
-- Ethernet; CTO packets come in and go out, DTO packets go out between them).
use Rattle.std.specs.Prelude.{◌≡◌, ◌≢◌, ◌<◌, ◌≤◌, ◌+◌, ℕ, List, [], ◌∷◌, ◌++◌, All, length, Option, Result, Ok, Err, ⊤}
use Rattle.std.specs.List.{flat_map}
use Rattle.std.specs.Io.KnownBytes.{Appends, Consumes, IsAtEnd}
use Rattle.xcp_slave.specs.declared.Exchange.{Exchange}
use Rattle.xcp_slave.specs.Outcomes.{Answer}
use Rattle.xcp_slave.specs.declared.Outcome.TheVariants as answers
use Rattle.xcp_slave.specs.declared.Request.TheVariants as requests
use Rattle.xcp_framing.specs.declared.station.StationError.{StationError}
use Rattle.xcp_framing.specs.declared.station.StationError.TheVariants as refusals
use Rattle.xcp_framing.specs.declared.serving.Served.{Served}
use Rattle.xcp_framing.specs.declared.serving.ServeError.{ServeError}
use Rattle.xcp_framing.specs.declared.serving.ServeError.TheVariants as errors
use Rattle.xcp_framing.specs.CountedCalls.{Watched, StreamPlace}
use Rattle.xcp_framing.specs.Prefix.{AppendsFront}
use Rattle.xcp_framing.specs.Wire.{wire, len_of, IsBadLength}
use Rattle.xcp_framing.specs.Frames.{frames, rest}

-- the packets of an answer, if it has some
abbrev pub packets_in_answer : Answer → List (List ℕ)
packets_in_answer (answers.Packets packets) = packets
packets_in_answer _ = []

-- the packets of the answers, in order
abbrev pub packets_in_answers : List Exchange → List (List ℕ)
packets_in_answers exchanges = flat_map (λ x. packets_in_answer x.answer) exchanges

-- a Drain that gave a packet
pub record GavePacket (x : Exchange) : Type 0 where
  pub drain : x.request ≡ requests.Drain
  pub gave : packets_in_answer x.answer ≢ []

-- the most Drains behind a command
abbrev pub most_drains : ℕ
most_drains = 64

-- the most packets of an answer
abbrev pub most_train : ℕ
most_train = 37

-- behind n Drains that gave a packet each: one that gave none; none at all where they were the most
abbrev pub EndsDrains : ℕ → List Exchange → Type 0
EndsDrains n [] = n ≡ most_drains
EndsDrains n (x ∷ more) = (n < most_drains) × (x.request ≡ requests.Drain) × (packets_in_answer x.answer ≡ []) × (more ≡ [])

-- The Drains behind a command: up to and with the first that gives no packet, at most 64.
pub record Drained (exchanges : List Exchange) : Type 0 where
  pub gave : List Exchange
  pub last : List Exchange
  pub joined : exchanges ≡ gave ++ last
  pub each : All GavePacket gave
  pub ended : EndsDrains (length gave) last

-- a command and the Drains behind it
pub record AnswersOne (packet : List ℕ) (exchanges : List Exchange) : Type 0 where
  pub command : Exchange
  pub drains : List Exchange
  pub joined : exchanges ≡ command ∷ drains
  pub asked : command.request ≡ requests.Command (record { items = packet })
  pub drained : Drained drains

-- for each packet, in order, the command and the Drains behind it
abbrev pub AnswersAll : List (List ℕ) → List Exchange → Type 0
AnswersAll [] exchanges = exchanges ≡ []
AnswersAll (packet ∷ packets) exchanges =
    (one : List Exchange) × (more : List Exchange) × (exchanges ≡ one ++ more) × AnswersOne packet one × AnswersAll packets more

-- nothing, or the first packet's command and some of the Drains behind it, each of which gave a packet
abbrev pub AnswersStart : List (List ℕ) → List Exchange → Type 0
AnswersStart packets [] = ⊤
AnswersStart [] (x ∷ drains) = ⊥
AnswersStart (packet ∷ packets) (x ∷ drains) = (x.request ≡ requests.Command (record { items = packet })) × All GavePacket drains × (length drains ≤ most_drains)

-- the first packets, each with the Drains behind it, and of the next one the start
pub record AnswersPart (packets : List (List ℕ)) (exchanges : List Exchange) : Type 0 where
  pub done : List (List ℕ)
  pub next : List (List ℕ)
  pub full : List Exchange
  pub cut : List Exchange
  pub packets_are : packets ≡ done ++ next
  pub joined : exchanges ≡ full ++ cut
  pub answered : AnswersAll done full
  pub begun : AnswersStart next cut

-- All the packets were answered, unless a write, the station or want of memory for packets ended the call.
abbrev pub AnswersSoFar : {A : Type 0} → Result A ServeError → List (List ℕ) → List Exchange → Type 0
AnswersSoFar (Err errors.Write) packets exchanges = AnswersPart packets exchanges
AnswersSoFar (Err errors.Memory) packets exchanges = AnswersPart packets exchanges
AnswersSoFar (Err errors.JournalFull) packets exchanges = AnswersPart packets exchanges
AnswersSoFar (Err errors.NoRoom) packets exchanges = AnswersPart packets exchanges
AnswersSoFar _ packets exchanges = AnswersAll packets exchanges

-- All of the text was written, unless a write ended the call: then a front of it.
abbrev pub WritesText : {A : Type 0} → Result A ServeError → Option (List ℕ) → Option (List ℕ) → List ℕ → Type 0
WritesText (Err errors.Write) before after text = AppendsFront before after text
WritesText _ before after text = Appends before after text

-- A fact about the bytes that were read between two places of a stream: where a contract knows those that it had, they are these
-- without those that are left.
pub record OnRead (from to : StreamPlace) (Fact : List ℕ → Type 0) : Type 0 where
  pub stream : List ℕ
  pub gave : to.read ≡ from.read ++ stream
  pub known : Consumes from.left to.left stream
  pub fact : Fact stream

-- What is left of the stream at its end: nothing, a LEN above m, or a part of a frame. After a failed read, and where all
-- turns are spent, it begins with no LEN above m either: that ends the call as soon as it is read.
abbrev pub EndsStream : ℕ → Result Served ServeError → List ℕ → Type 0
EndsStream m (Ok served) left = left ≡ []
EndsStream m (Err (errors.BadLength n)) left = (n ≡ len_of left) × IsBadLength m left
EndsStream m (Err errors.Truncated) left = (left ≢ []) × ¬ IsBadLength m left
EndsStream m (Err errors.Read) left = ¬ IsBadLength m left
EndsStream m (Err errors.TurnsSpent) left = ¬ IsBadLength m left
EndsStream m _ left = ⊤

-- the reader was read to its end
abbrev pub EndsReader : Result Served ServeError → Option (List ℕ) → Type 0
EndsReader (Ok served) after = IsAtEnd after
EndsReader (Err errors.Truncated) after = IsAtEnd after
EndsReader _ after = ⊤

-- The calls of the reader, at most `turns` of them, and those that failed.
pub record ReadsWithin {R : Type 0} (turns : ℕ) (result : Result Served ServeError) (old new : Watched R) : Type 0 where
  -- Read is returned only if a read failed; with any other result none did
  pub failed : result ≡ Err errors.Read → old.failures < new.failures
  pub fine : result ≢ Err errors.Read → new.failures ≡ old.failures
  pub most : new.calls ≤ old.calls + turns
  -- TurnsSpent is returned only if there were as many as are allowed
  pub spent : result ≡ Err errors.TurnsSpent → new.calls ≡ old.calls + turns

-- the counts are those of the commands and of the packets sent
abbrev pub Counts : Result Served ServeError → List (List ℕ) → List (List ℕ) → Type 0
Counts (Ok served) packets sent = (served.frames ≡ length packets) × (served.sent ≡ length sent)
Counts (Err e) packets sent = ⊤

-- a read is of so many bytes
abbrev pub IsReadOf : ℕ → ℕ → Type 0
IsReadOf size n = n ≡ size

-- each read of a stream that `serve` answers is of 512 bytes
abbrev pub IsStreamRead : ℕ → Type 0
IsStreamRead = IsReadOf 512

-- One call of `serve`, where MAX_CTO is m: `from` and `to` are where the stream stands before and after, `old` and `new` the
-- station's exchanges, `before` and `after` the writer's bytes.
pub record Serves (m : ℕ) (result : Result Served ServeError) (from to : StreamPlace) (old new : List Exchange) (before after : Option (List ℕ)) : Type 0 where
  -- the packets of the bytes read, and what stands behind them
  pub packets : List (List ℕ)
  pub behind : List ℕ
  pub read : OnRead from to (λ stream. (packets ≡ frames m stream) × (behind ≡ rest m stream))
  -- the exchanges of this call
  pub exchanges : List Exchange
  pub grown : new ≡ old ++ exchanges
  pub answers : AnswersSoFar result packets exchanges
  -- the frames of the answers' packets
  pub writes : WritesText result before after (wire (packets_in_answers exchanges))
  -- the end of the stream
  pub ends : EndsStream m result behind
  pub counts : Counts result packets (packets_in_answers exchanges)

-- the number of an error; want of memory has one, of the station and of packets alike
abbrev pub number_of : ServeError → ℕ
number_of errors.Read = 1
number_of errors.Write = 2
number_of (errors.BadLength n) = 3
number_of errors.Truncated = 4
number_of errors.Memory = 5
number_of errors.TurnsSpent = 6
number_of errors.JournalFull = 7
number_of errors.NoRoom = 5

-- a station's refusal as an error
abbrev pub refused_with : StationError → ServeError
refused_with refusals.Memory = errors.Memory
refused_with refusals.JournalFull = errors.JournalFull
