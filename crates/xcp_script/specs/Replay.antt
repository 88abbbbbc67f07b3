-- What a replay of a script asks, and what it writes.
use Rattle.std.specs.Prelude.{◌≡◌, ◌≢◌, ◌<◌, ◌≤◌, ℕ, ◌+◌, ◌⊎◌, Bool, true, false, List, [], ◌∷◌, ◌++◌, length, flat_map, position, Option, Some, None, option_map, Result, Ok, Err}
use Rattle.std.specs.List.{before_first}
use Rattle.std.specs.Io.KnownBytes.{Appends}
use Rattle.xcp_slave.specs.declared.Exchange.{Exchange}
use Rattle.xcp_slave.specs.declared.Request.{Request}
use Rattle.xcp_slave.specs.Run.{requests_of}
use Rattle.xcp_script.specs.declared.line.Line.{Line}
use Rattle.xcp_script.specs.declared.line.Line.TheVariants.{Ask, Faulty}
use Rattle.xcp_script.specs.declared.fault.ReplayError.{ReplayError}
use Rattle.xcp_script.specs.declared.fault.ReplayError.TheVariants as errors
use Rattle.xcp_framing.specs.CountedCalls.{Watched}
use mathlib.Core.List.{IsPrefix}
use Rattle.xcp_framing.specs.Prefix.{AppendsFront}
use Rattle.xcp_script.specs.Lines.{Lines}
use Rattle.xcp_script.specs.ScriptLine.{meaning}
use Rattle.xcp_script.specs.AnswerText.{answers_text}

abbrev pub is_faulty : Line → Bool
is_faulty Faulty = true
is_faulty _ = false

abbrev pub asked_by : Line → List Request
asked_by (Ask request) = request ∷ []
asked_by _ = []

-- the requests of the lines before the first faulty one
abbrev pub asked : ℕ → List (List ℕ) → List Request
asked max_cto lines =
    flat_map (λ line. asked_by (meaning max_cto line))
    (before_first (λ line. is_faulty (meaning max_cto line)) lines)

-- the number of the first faulty line, where all lines are counted from 1
abbrev pub first_faulty : ℕ → List (List ℕ) → Option ℕ
first_faulty max_cto lines =
    option_map (λ i. i + 1) (position (λ line. is_faulty (meaning max_cto line)) lines)

-- What these requests are to the lines of the script, by what the replay returned.
-- Ok(n): no line is faulty, and they are all n that the lines ask.
-- Line(k): line k is the first faulty one, and they are all that the lines before it ask.
-- Any other error: they are the first of those.
abbrev pub Replayed : ℕ → List (List ℕ) → Result ℕ ReplayError → List Request → Type 0
Replayed max_cto lines (Ok n) requests =
    (first_faulty max_cto lines ≡ None) × (requests ≡ asked max_cto lines) × (n ≡ length requests)
Replayed max_cto lines (Err (errors.Line k)) requests =
    (first_faulty max_cto lines ≡ Some k) × (requests ≡ asked max_cto lines)
Replayed max_cto lines (Err e) requests = IsPrefix requests (asked max_cto lines)

-- a fact about the lines of an input whose bytes are known
abbrev pub OfLines : Option (List ℕ) → (List (List ℕ) → Type 0) → Type 0
OfLines None Holds = Unit {0}
OfLines (Some input) Holds = (lines : List (List ℕ)) → Lines input lines → Holds lines

-- What was written of the text of the answers, by what the replay returned: all of it, or after a
-- failed write, or where an allocation fails, a front of it.
abbrev pub TellsAnswers : {A : Type 0} → Result A ReplayError → Option (List ℕ) → Option (List ℕ) → List ℕ → Type 0
TellsAnswers (Ok value) old new text = Appends old new text
TellsAnswers (Err (errors.Line k)) old new text = Appends old new text
TellsAnswers (Err errors.Read) old new text = Appends old new text
TellsAnswers (Err e) old new text = AppendsFront old new text

-- of the requests that were asked the next one was not taken
pub record NotTaken (asks : List Request) (exchanges : List Exchange) : Type 0 where
  pub next : Request
  pub more : List Request
  pub joined : asks ≡ requests_of exchanges ++ next ∷ more

-- The answer to the last request has no text: what was written is a front of the text of the answers before it.
pub record NotTold (exchanges : List Exchange) (old new : Option (List ℕ)) : Type 0 where
  pub earlier : List Exchange
  pub last : Exchange
  pub joined : exchanges ≡ earlier ++ last ∷ []
  pub written : AppendsFront old new (answers_text earlier)

-- where memory is short: at a request that was not taken, or at the text of its answer
abbrev pub EndsShort : List Request → List Exchange → Option (List ℕ) → Option (List ℕ) → Type 0
EndsShort asks exchanges old new = NotTaken asks exchanges ⊎ NotTold exchanges old new

-- a turn is one read, of at least 4,096 and at most 65,536 bytes: of 16,384
pub record IsTurn (bytes : ℕ) : Type 0 where
  pub exact : bytes ≡ 16384
  pub least : 4096 ≤ bytes
  pub most : bytes ≤ 65536

-- What became of a script's reader and writer in one call of at most so many reads.
pub record UsesStreams {A R W : Type 0} (turns : ℕ) (result : Result A ReplayError) (reader reader' : Watched R) (writer writer' : Watched W) : Type 0 where
  -- at `Read` a read failed, or there was one in each turn
  pub read : result ≡ Err errors.Read → (reader.failures < reader'.failures) ⊎ (reader'.calls ≡ reader.calls + turns)
  -- there was at most one read in each turn
  pub reads : reader'.calls ≤ reader.calls + turns
  -- at any other end than `Read` no read failed
  pub read_unfailed : result ≢ Err errors.Read → reader'.failures ≡ reader.failures
  -- at `Write` a write failed
  pub write : result ≡ Err errors.Write → writer.failures < writer'.failures
  -- at any other end than `Write` no write failed
  pub write_unfailed : result ≢ Err errors.Write → writer'.failures ≡ writer.failures
