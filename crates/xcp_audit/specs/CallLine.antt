-- The line of a call, and the name of its caller.
use Rattle.std.specs.Prelude.{ℕ, ◌-◌, List, ◌∷◌, ◌++◌, Option, Some, None, flat_map, nat_lt, if◌then◌else◌, codes, decimal}
use Rattle.hex.specs.Hex.{encode_upper}
use Rattle.xcp_slave.specs.declared.Request.{Request}
use Rattle.xcp_slave.specs.declared.Request.TheVariants as requests
use Rattle.xcp_script.specs.AnswerText.{text_of}
use Rattle.xcp_trace.specs.declared.Entry.{Entry}
use Rattle.xcp_record.specs.declared.Roster.{Roster}

-- a request, as a line of a script asks it
abbrev pub words_asked : Request → List ℕ
words_asked (requests.Command packet) = encode_upper packet.items
words_asked (requests.Event channel signals) = codes "event " ++ decimal channel ++ codes " " ++ encode_upper signals.items
words_asked requests.Drain = codes "drain"
words_asked requests.FinishStore = codes "store"
words_asked requests.Hangup = codes "hangup"
words_asked (requests.Time time) = codes "time " ++ decimal time
words_asked (requests.Signals place bytes) = codes "signals " ++ decimal place ++ codes " " ++ encode_upper bytes.items

-- The name of the caller of this number, from 0, where so many of a kind come first: the kind's word, and that number; the others are named
-- by their number behind them.
abbrev pub of_kind : List ℕ → ℕ → (ℕ → List ℕ) → ℕ → List ℕ
of_kind word count others n = if nat_lt n count then word ++ decimal n else others (n - count)

-- The name of a caller: its kind, by the roster of its file, and its number among those of its kind; one that the roster hasn't is a caller
-- of its number. In a file without a roster it is that number alone.
abbrev pub caller_name : Option Roster → ℕ → List ℕ
caller_name None caller = decimal caller
caller_name (Some r) caller =
    of_kind (codes "tool ") r.tools (of_kind (codes "task ") r.tasks (of_kind (codes "pump ") r.pumps (of_kind (codes "clock ") r.clocks (λ n. codes "caller " ++ decimal caller)))) caller

-- a call's line: its caller's name, its request and its answer's line, with a tab (9) between them
abbrev pub line_of_call : Option Roster → Entry → List ℕ
line_of_call roster call = caller_name roster call.caller ++ 9 ∷ words_asked call.exchange.request ++ 9 ∷ text_of call.exchange.answer

-- the lines of calls of a file with this roster or none, in order
abbrev pub lines_of_calls : Option Roster → List Entry → List ℕ
lines_of_calls roster calls = flat_map (line_of_call roster) calls
