-- What is asked where its bytes are lent, as a request.
use Rattle.std.specs.Prelude.{◌≤◌, ⊤, length}
use Rattle.xcp_slave.specs.declared.asked.Asked.{Asked}
use Rattle.xcp_slave.specs.declared.asked.Asked.TheVariants as asks
use Rattle.xcp_slave.specs.declared.request.Request.{Request}
use Rattle.xcp_slave.specs.declared.request.Request.TheVariants as requests

-- the request of these bytes
abbrev pub request_asked : Asked → Request
request_asked (asks.Command bytes) = requests.Command (record { items = bytes.now })
request_asked (asks.Event channel signals) = requests.Event channel (record { items = signals.now })
request_asked asks.Drain = requests.Drain
request_asked asks.FinishStore = requests.FinishStore
request_asked asks.Hangup = requests.Hangup
request_asked (asks.Time time) = requests.Time time
request_asked (asks.Signals place bytes) = requests.Signals place (record { items = bytes.now })

-- a command packet has at most 255 bytes, an event at most 64 of signals, and signals that are handed over by themselves 255
abbrev pub IsShort : Asked → Type 0
IsShort (asks.Command bytes) = length bytes.now ≤ 255
IsShort (asks.Event channel signals) = length signals.now ≤ 64
IsShort (asks.Signals place bytes) = length bytes.now ≤ 255
IsShort _ = ⊤
