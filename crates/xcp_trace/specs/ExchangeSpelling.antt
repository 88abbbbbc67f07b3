-- What exchange a string spells: a head of six bytes, then the bytes of the request and those of the answer. The head is the
-- request's tag, its channel (the low byte first), the answer's tag, its number, and the length of the request's bytes.
use Rattle.std.specs.Prelude.{◌≡◌, ◌≢◌, ◌≤◌, ◌<◌, ℕ, ◌+◌, ◌*◌, ◌/◌, ◌%◌, ◌^◌, List, [], ◌∷◌, ◌++◌, length, take, drop, slice_index, ◌==◌, if◌then◌else◌}
use Rattle.xcp_packet.specs.ByteOrder.{double_at, double_bytes}
use Rattle.xcp_packet.specs.declared.Order.TheVariants.{Intel}
use Rattle.xcp_packet.specs.PacketTrains.{block_packets}
use Rattle.xcp_slave.specs.declared.Request.{Request}
use Rattle.xcp_slave.specs.declared.Request.TheVariants as requests
use Rattle.xcp_slave.specs.Outcomes.{Answer}
use Rattle.xcp_slave.specs.declared.Outcome.TheVariants as answers
use Rattle.xcp_slave.specs.declared.Exchange.{Exchange}

-- a time of eight bytes: its low double word, and then its high one, each with the lowest byte first
abbrev pub time_bytes : ℕ → List ℕ
time_bytes time = double_bytes Intel (time % 0x1_0000_0000) ++ double_bytes Intel (time / 0x1_0000_0000)

abbrev pub time_in : List ℕ → ℕ
time_in bytes = double_at Intel 0 bytes + double_at Intel 4 bytes * 0x1_0000_0000

-- the time has eight bytes
abbrev pub IsSpelt : Request → Type 0
IsSpelt (requests.Time time) = time < 2 ^ 64
IsSpelt _ = Unit {0}

-- A request as a tag, a channel and bytes. Of signals that are handed over by themselves the place stands for the channel.
abbrev pub request_tag : Request → ℕ
request_tag (requests.Command packet) = 0
request_tag (requests.Event channel signals) = 1
request_tag requests.Drain = 2
request_tag requests.FinishStore = 3
request_tag requests.Hangup = 4
request_tag (requests.Time time) = 5
request_tag (requests.Signals place bytes) = 6

abbrev pub request_channel : Request → ℕ
request_channel (requests.Event channel signals) = channel
request_channel (requests.Signals place bytes) = place
request_channel _ = 0

abbrev pub request_bytes : Request → List ℕ
request_bytes (requests.Command packet) = packet.items
request_bytes (requests.Event channel signals) = signals.items
request_bytes (requests.Time time) = time_bytes time
request_bytes (requests.Signals place bytes) = bytes.items
request_bytes _ = []

-- the request of a tag, a channel and bytes
abbrev pub request_of : ℕ → ℕ → List ℕ → Request
request_of tag channel bytes =
    if tag == 0 then requests.Command (record { items = bytes }) else (
    if tag == 1 then requests.Event channel (record { items = bytes }) else (
    if tag == 2 then requests.Drain else (
    if tag == 3 then requests.FinishStore else (
    if tag == 4 then requests.Hangup else (
    if tag == 6 then requests.Signals channel (record { items = bytes }) else requests.Time (time_in bytes))))))

-- The answer of a tag, a number and bytes: of tag 1 the packet of these bytes, and of 10 the block of them, so many to a
-- packet.
abbrev pub answer_spelt : ℕ → ℕ → List ℕ → Answer
answer_spelt tag n bytes =
    if tag == 0 then answers.Silent else (
    if tag == 1 then answers.Packets (bytes ∷ []) else (
    if tag == 2 then answers.Sampled n else (
    if tag == 3 then answers.Overrun else (
    if tag == 4 then answers.NoChannel else (
    if tag == 5 then answers.BadSignals else (
    if tag == 6 then answers.Nothing else (
    if tag == 7 then answers.Stored n else (
    if tag == 8 then answers.NoStore else (
    if tag == 9 then answers.Later else answers.Packets (block_packets n bytes))))))))))

-- The string has a head of six bytes, and behind it bytes for a request and an answer: at most 255 each, of an event at most 64, of a
-- time 8. A block has a width.
pub record IsExchangeString (string : List ℕ) : Type 0 where
  pub whole : 6 + slice_index string 5 ≤ length string
  pub asked : slice_index string 5 ≤ 255
  pub signals : slice_index string 0 ≡ 1 → slice_index string 5 ≤ 64
  pub time : 4 < slice_index string 0 → slice_index string 0 ≢ 6 → slice_index string 5 ≡ 8
  pub told : length string ≤ 6 + slice_index string 5 + 255
  pub width : 9 < slice_index string 3 → (7 ≤ slice_index string 4) × (slice_index string 4 ≤ 254)

-- the exchange that such a string spells
abbrev pub exchange_in : List ℕ → Exchange
exchange_in string = record {
  request = request_of (slice_index string 0) (slice_index string 1 + slice_index string 2 * 256) (take (slice_index string 5) (drop 6 string));
  answer = answer_spelt (slice_index string 3) (slice_index string 4) (drop (slice_index string 5) (drop 6 string));
}

-- the string of a request and the parts of its answer
abbrev pub spelling : Request → ℕ → ℕ → List ℕ → List ℕ
spelling r tag n bytes =
    (request_tag r ∷ request_channel r % 256 ∷ request_channel r / 256 ∷ tag ∷ n ∷ length (request_bytes r) ∷ []) ++ request_bytes r ++ bytes

-- the room that any exchange needs: its string's length, a head, and twice 255 bytes
abbrev pub room_for_any : ℕ
room_for_any = 2 + (6 + 255 + 255)

-- A trace as contracts see it: its exchanges, in order, and how many bytes it can take before it needs more memory.
pub record TraceValue : Type 0 where
  pub exchanges : List Exchange
  pub room : ℕ
