-- The packets of a stream, answered one after another, whatever answers them.
use Rattle.std.specs.Prelude.{◌≡◌, ◌++◌, [], ℕ, List, length, IfOk, Result, Ok, Err}
use Rattle.xcp_framing.specs.declared.serving.Served.{Served}
use Rattle.xcp_framing.specs.declared.serving.ServeError.{ServeError}
use Rattle.xcp_framing.specs.declared.serving.ServeError.TheVariants as errors
use Rattle.xcp_framing.specs.CountedCalls.{StreamPlace}
use Rattle.xcp_framing.specs.Frames.{frames, rest}
use Rattle.xcp_framing.specs.Serve.{OnRead, EndsStream}
use Rattle.xcp_framing.specs.ServeParts.{IsInterruption}

-- a station, what is kept from packet to packet, and what takes the packets of the answers
pub record AnswerStand (S K O : Type 0) : Type 0 where
  pub station : S
  pub state : K
  pub out : O

-- Packets that are answered one behind another are answered: `Answers` says what answering packets does, and an interruption.
pub record JoinsPackets {A : Type 0} (Answers : Result (Unit {0}) ServeError → List (List ℕ) → A → A → Type 0) : Type 0 where
  -- of no packets, nothing comes
  pub none : (a : A) → Answers (Ok tt) [] a a
  -- packets that were answered, and more behind them
  pub more : (r : Result (Unit {0}) ServeError) (ps qs : List (List ℕ)) (a b c : A) → Answers (Ok tt) ps a b → Answers r qs b c → Answers r (ps ++ qs) a c
  -- an interruption, whatever packets stood behind it
  pub before : (e : ServeError) (ps qs : List (List ℕ)) (a b : A) → IsInterruption e → Answers (Err e) ps a b → Answers (Err e) (ps ++ qs) a b

-- A handing on behind packets that were answered is a part of what answering them does: `Hands` says what handing on does.
pub record JoinsHandingOn {S K O : Type 0} (Answers : Result (Unit {0}) ServeError → List (List ℕ) → AnswerStand S K O → AnswerStand S K O → Type 0) (Hands : Result (Unit {0}) ServeError → K → O → K → O → Type 0) : Type 0 where
  -- one that was done
  pub handed : (r : Result (Unit {0}) ServeError) (ps : List (List ℕ)) (a b : AnswerStand S K O) (k : K) (o : O) → Answers r ps a b → Hands (Ok tt) b.state b.out k o → Answers r ps a (record { station = b.station; state = k; out = o })
  -- one that failed
  pub held : (r : Result (Unit {0}) ServeError) (e : ServeError) (ps : List (List ℕ)) (a b : AnswerStand S K O) (k : K) (o : O) → Answers r ps a b → Hands (Err e) b.state b.out k o → Answers (Err e) ps a (record { station = b.station; state = k; out = o })

-- what became of the packets that came: the interruption that ended the call, or all of them were answered
abbrev pub outcome : {R : Type 0} → Result R ServeError → Result (Unit {0}) ServeError
outcome (Err errors.Write) = Err errors.Write
outcome (Err errors.Memory) = Err errors.Memory
outcome (Err errors.JournalFull) = Err errors.JournalFull
outcome (Err errors.NoRoom) = Err errors.NoRoom
outcome _ = Ok tt

-- One call of `answer_stream`, where MAX_CTO is m: `from` and `to` are where the stream stands before and after; `Answers` says what answering packets does, and an interruption.
pub record Streams {A : Type 0} (Answers : Result (Unit {0}) ServeError → List (List ℕ) → A → A → Type 0) (m : ℕ) (result : Result Served ServeError) (from to : StreamPlace) (old new : A) : Type 0 where
  -- the packets of the bytes read, and what stands behind them
  pub packets : List (List ℕ)
  pub behind : List ℕ
  pub read : OnRead from to (λ stream. (packets ≡ frames m stream) × (behind ≡ rest m stream))
  pub answered : Answers (outcome result) packets old new
  -- the end of the stream
  pub ends : EndsStream m result behind
  pub counts : IfOk result (λ served. served.frames ≡ length packets)
