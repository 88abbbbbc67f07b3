-- What a line of a script says.
use Rattle.std.specs.Prelude.{ℕ, ◌*◌, Bool, true, not, ◌&&◌, List, [], ◌∷◌, length, take, drop, filter, Option, Some, None, Result, Ok, Err, nat_lt, nat_le, ◌==◌, if◌then◌else◌, codes, bytes_eq}
use Rattle.std.specs.List.{before_first, after_first, list_all}
use Rattle.std.specs.Char.{is_ascii_digit}
use Rattle.std.specs.Str.Parse.{digits_value}
use Rattle.hex.specs.Hex.{decode_of}
use Rattle.hex.specs.declared.error.FromHexError.{FromHexError}
use Rattle.xcp_slave.specs.declared.Request.TheVariants as requests
use Rattle.xcp_script.specs.declared.line.Line.{Line}
use Rattle.xcp_script.specs.declared.line.Line.TheVariants.{Skip, Ask, Faulty}

abbrev pub is_space : ℕ → Bool
is_space b = b == 32

-- nothing, or a comment: `#` (35) and what follows it
abbrev pub is_skipped : List ℕ → Bool
is_skipped [] = true
is_skipped (b ∷ bs) = b == 35

-- whether the line is this word and nothing else
abbrev pub is_word : List ℕ → List ℕ → Bool
is_word word line = bytes_eq line word

abbrev pub bytes_if_ok : Result (List ℕ) FromHexError → Option (List ℕ)
bytes_if_ok (Ok bytes) = Some bytes
bytes_if_ok (Err e) = None

-- the bytes that hex digits of either case write, two digits each, if these are 1 to most bytes
unfoldable pub hex_bytes : ℕ → List ℕ → Option (List ℕ)
hex_bytes most digits =
    if nat_lt 0 (length digits) && nat_le (length digits) (2 * most)
    then bytes_if_ok (decode_of digits) else None

-- the number of an event channel, or a place in the signals: one or more decimal digits of a value of at most 65,535
unfoldable pub channel_of : List ℕ → Option ℕ
channel_of digits =
    if nat_lt 0 (length digits) && list_all is_ascii_digit digits && nat_le (digits_value 10 digits) 65535
    then Some (digits_value 10 digits) else None

-- the number of a time: one or more decimal digits of a value below 2^64
unfoldable pub time_of : List ℕ → Option ℕ
time_of digits =
    if nat_lt 0 (length digits) && list_all is_ascii_digit digits && nat_le (digits_value 10 digits) 0xFFFF_FFFF_FFFF_FFFF
    then Some (digits_value 10 digits) else None

abbrev pub time_with : Option ℕ → Line
time_with (Some time) = Ask (requests.Time time)
time_with None = Faulty

abbrev pub event_with : Option ℕ → Option (List ℕ) → Line
event_with (Some channel) (Some signals) = Ask (requests.Event channel (record { items = signals }))
event_with _ _ = Faulty

-- `C HEX`, with one space between: C is the event channel, HEX 1 to 64 bytes for the signals
abbrev pub event_of : List ℕ → Line
event_of text =
    event_with (channel_of (before_first is_space text)) (hex_bytes 64 (after_first is_space text))

abbrev pub signals_with : Option ℕ → Option (List ℕ) → Line
signals_with (Some place) (Some bytes) = Ask (requests.Signals place (record { items = bytes }))
signals_with _ _ = Faulty

-- `PLACE HEX`, with one space between: HEX 1 to 255 bytes of signals that stand from this place on
abbrev pub signals_of : List ℕ → Line
signals_of text =
    signals_with (channel_of (before_first is_space text)) (hex_bytes 255 (after_first is_space text))

abbrev pub command_with : Option (List ℕ) → Line
command_with (Some packet) = Ask (requests.Command (record { items = packet }))
command_with None = Faulty

-- a command packet of at most max_cto bytes in hex, in which spaces may stand
abbrev pub command_of : ℕ → List ℕ → Line
command_of max_cto line = command_with (hex_bytes max_cto (filter (λ b. not (is_space b)) line))

-- what a line says that hands signals over by themselves, or is a command packet
unfoldable pub handed_or_command : ℕ → List ℕ → Line
handed_or_command max_cto line =
    if is_word (codes "signals ") (take 8 line) then signals_of (drop 8 line) else command_of max_cto line

-- what a line says, where packets have at most max_cto (MAX_CTO) bytes
unfoldable pub meaning : ℕ → List ℕ → Line
meaning max_cto line =
    if nat_lt 1024 (length line) then Faulty else (
    if is_skipped line then Skip else (
    if is_word (codes "drain") line then Ask requests.Drain else (
    if is_word (codes "store") line then Ask requests.FinishStore else (
    if is_word (codes "hangup") line then Ask requests.Hangup else (
    if is_word (codes "event ") (take 6 line) then event_of (drop 6 line) else (
    if is_word (codes "time ") (take 5 line) then time_with (time_of (drop 5 line)) else
    handed_or_command max_cto line))))))
