-- The step relation: what a slave answers to a request, and what it is then.
use Rattle.std.specs.Prelude.{◌≡◌, ℕ, ◌+◌, Bool, true, false, ◌&&◌, ◌||◌, ◌==◌, not, nat_le, nat_lt, List, [], ◌∷◌, ◌++◌, length, Option, Some, None, Result, Ok, Err, MatchBool, if◌then◌else◌}
use Rattle.arrayvec.specs.ArrayVec.{ArrayVec}
use Rattle.xcp_packet.specs.Decoding.{Decodes}
use Rattle.xcp_packet.specs.ReplyInBytes.{packets_of}
use Rattle.xcp_packet.specs.declared.Command.{Command}
use Rattle.xcp_packet.specs.declared.Command.TheVariants as commands
use Rattle.xcp_packet.specs.declared.Refuse.{Refuse}
use Rattle.xcp_packet.specs.declared.Refuse.TheVariants as refuses
use Rattle.xcp_packet.specs.declared.Reply.{Reply}
use Rattle.xcp_packet.specs.declared.Reply.TheVariants as replies
use Rattle.xcp_packet.specs.declared.Code.{Code}
use Rattle.xcp_packet.specs.declared.Code.TheVariants.{CmdUnknown, CmdSyntax}
use Rattle.xcp_memory.specs.Freeze.{pages_frozen, frozen_count}
use Rattle.xcp_memory.specs.ClassLimits.{limits_of}
use Rattle.xcp_memory.specs.ComputedAccess.{overwritten}
use Rattle.xcp_memory.specs.Layout.{LayoutValue}
use Rattle.xcp_memory.specs.Signals.{takes_signals}
use Rattle.xcp_transfer.specs.TransferValue.{response_room}
use Rattle.xcp_packet.specs.Rows.{Meets}
use Rattle.xcp_daq.specs.Sample.{sampled, after_event}
use Rattle.xcp_slave.specs.declared.request.Request.{Request}
use Rattle.xcp_slave.specs.declared.request.Request.TheVariants as requests
use Rattle.xcp_slave.specs.Outcomes.{Answer}
use Rattle.xcp_slave.specs.declared.outcome.Outcome.TheVariants as answers
use Rattle.xcp_slave.specs.SlaveValue.{SlaveValue, layout_of, noblock, ended}
use Rattle.xcp_slave.specs.Rows.{row}

-- The answer to a reply: its packets, in this layout's byte order and with at most MAX_CTO - 1 data bytes each, or nothing
-- where nothing is sent.
abbrev pub answer_of : LayoutValue → Option Reply → Answer
answer_of l None = answers.Silent
answer_of l (Some reply) = answers.Packets (packets_of l.order (response_room l) reply)

-- the reply that is sent: of a refused command, its error packet
abbrev pub sent_reply : Result (Option Reply) Reply → Option Reply
sent_reply (Ok reply) = reply
sent_reply (Err e) = Some e

-- nothing is sent and nothing has changed
abbrev pub Ignores : SlaveValue → Answer → SlaveValue → Type 0
Ignores v a w = (a ≡ answers.Silent) × (w ≡ v)

-- the packet is refused with this code, and nothing has changed but that a block under way is given up
abbrev pub Refuses : SlaveValue → Code → Answer → SlaveValue → Type 0
Refuses v e a w = (a ≡ answer_of (layout_of v) (Some (replies.Error e))) × (w ≡ noblock v)

-- The slave as a command finds it: any command but DOWNLOAD_NEXT gives a block under way up.
abbrev pub found_by : Command → SlaveValue → SlaveValue
found_by (commands.DownloadNext remaining bytes) v = v
found_by _ v = noblock v

-- The command's row is met at the slave that it finds, and its reply or its error is sent. A refusal leaves no block.
abbrev pub Executes : Command → SlaveValue → Answer → SlaveValue → Type 0
Executes c v a w = (r : Result (Option Reply) Reply) × Meets (row c (found_by c v)) (noblock v) r w × (a ≡ answer_of (layout_of v) (sent_reply r))

abbrev pub is_connect : Command → Bool
is_connect (commands.Connect mode) = true
is_connect _ = false

-- What bytes do that decode so: an empty packet is no command; while nobody is connected only a whole CONNECT is heeded; an
-- unknown code and too few bytes have their errors.
-- (ASAM MCD-1 XCP, protocol layer: CONNECT; error codes ERR_CMD_UNKNOWN, ERR_CMD_SYNTAX.)
abbrev pub Heeds : SlaveValue → Result Command Refuse → Answer → SlaveValue → Type 0
Heeds v (Ok c) a w = MatchBool (v.connected || is_connect c) (Executes c v a w) (Ignores v a w)
Heeds v (Err refuses.Empty) a w = Ignores v a w
Heeds v (Err refuses.Unknown) a w = MatchBool v.connected (Refuses v CmdUnknown a w) (Ignores v a w)
Heeds v (Err refuses.Short) a w = MatchBool v.connected (Refuses v CmdSyntax a w) (Ignores v a w)

-- what a command packet of these bytes does, which are read in the layout's byte order
abbrev pub AnswersPacket : SlaveValue → List ℕ → Answer → SlaveValue → Type 0
AnswersPacket v bytes a w = (d : Result Command Refuse) × Decodes (layout_of v).order bytes d × Heeds v d a w

-- Drain answers the first packet that waits and takes it out; the others stay in order.
-- (ASAM MCD-1 XCP, protocol layer: event packets, data packets.)
abbrev pub Drains : List (ArrayVec ℕ) → SlaveValue → Answer → SlaveValue → Type 0
Drains [] v a w = (a ≡ answers.Nothing) × (w ≡ v)
Drains (packet ∷ rest) v a w = (a ≡ answers.Packets (packet.items ∷ [])) × (w ≡ record v { outbox = rest })

-- how many packets can wait
abbrev pub outbox_size : SlaveValue → ℕ
outbox_size v = (limits_of (layout_of v).class).packets

-- EV_STORE_CAL: the pages have been stored
-- (ASAM MCD-1 XCP, protocol layer, event packets: EV_STORE_CAL.)
abbrev pub store_event : ArrayVec ℕ
store_event = record { items = 0xFD ∷ 0x03 ∷ [] }

-- the slave once its pages are stored: page 0 of each segment in FREEZE mode has the content of the tool's page, the request is
-- gone, and a connected tool is told
abbrev pub stored : SlaveValue → SlaveValue
stored v = record v {
  transfer = record v.transfer { pages = pages_frozen v.transfer.pages };
  store = false;
  outbox = if v.connected then v.outbox ++ store_event ∷ [] else v.outbox;
}

-- FinishStore where a store is requested: while the tool that has to be told is connected and its packet has no room, nothing
-- is done yet.
abbrev pub Stores : SlaveValue → Answer → SlaveValue → Type 0
Stores v a w =
    MatchBool (v.connected && nat_le (outbox_size v) (length v.outbox))
    ((a ≡ answers.Later) × (w ≡ v))
    ((a ≡ answers.Stored (frozen_count v.transfer.pages)) × (w ≡ stored v))

-- the slave with these bytes of signals from a place on; what isn't handed over stays
abbrev pub with_part : ℕ → List ℕ → SlaveValue → SlaveValue
with_part place bytes v = record v { transfer = record v.transfer { pages = record v.transfer.pages { signals = overwritten v.transfer.pages.signals place bytes } } }

-- the slave with these first bytes of signals
abbrev pub with_signals : List ℕ → SlaveValue → SlaveValue
with_signals signals v = with_part 0 signals v

-- the slave once its lists have counted an event
abbrev pub with_event : ℕ → SlaveValue → SlaveValue
with_event channel v = record v { daq = after_event channel v.daq }

-- EV_DAQ_OVERLOAD: a sample was lost
-- (ASAM MCD-1 XCP, protocol layer, event packets: EV_DAQ_OVERLOAD.)
abbrev pub overload_event : ArrayVec ℕ
overload_event = record { items = 0xFD ∷ 0x06 ∷ [] }

-- The packets that an event puts, where these are its sample and so many can wait: where the tool has to be told of a lost sample, the event packet
-- stands before them. An event that samples nothing puts nothing; and a sample that takes all the room there is, or there would
-- never be room for it, is put by itself.
abbrev pub with_overload : ℕ → Bool → List (ArrayVec ℕ) → List (ArrayVec ℕ)
with_overload size false packets = packets
with_overload size true [] = []
with_overload size true (packet ∷ rest) = if nat_lt (length (packet ∷ rest)) size then overload_event ∷ packet ∷ rest else packet ∷ rest

-- whether the tool has to be told of a lost sample still, once they are put, where so many can wait
abbrev pub still_overloaded : ℕ → Bool → List (ArrayVec ℕ) → Bool
still_overloaded size false packets = false
still_overloaded size true [] = true
still_overloaded size true (packet ∷ rest) = not (nat_lt (length (packet ∷ rest)) size)

-- the slave once an event's packets wait
abbrev pub with_sample : ℕ → List (ArrayVec ℕ) → SlaveValue → SlaveValue
with_sample channel packets v = record (with_event channel v) {
  outbox = v.outbox ++ with_overload (outbox_size v) v.overloaded packets;
  overloaded = still_overloaded (outbox_size v) v.overloaded packets;
}

-- the slave once an event's sample is lost: where the layout asks for it, the tool has to be told
abbrev pub with_loss : ℕ → SlaveValue → SlaveValue
with_loss channel v = record (with_event channel v) { overloaded = (layout_of v).extras.tells_overload }

-- An event of a channel that there is, with its signals in place: the packets of its sample wait, all of them, or none where
-- they have no room together; nor do they without room for the event packet that tells of a lost sample, where it is due.
-- Lists have counted the event either way.
-- (ASAM MCD-1 XCP, protocol layer: DAQ, event channels, data packets; event packets: EV_DAQ_OVERLOAD.)
abbrev pub Samples : ℕ → List (ArrayVec ℕ) → SlaveValue → Answer → SlaveValue → Type 0
Samples channel packets v a w =
    MatchBool (nat_le (length v.outbox + length (with_overload (outbox_size v) v.overloaded packets)) (outbox_size v))
    ((a ≡ answers.Sampled (length (with_overload (outbox_size v) v.overloaded packets))) × (w ≡ with_sample channel packets v))
    ((a ≡ answers.Overrun) × (w ≡ with_loss channel v))

-- An event: its channel has to be one of the layout's, and its signals as many bytes as the layout takes; they become the first bytes of
-- the signals area first.
abbrev pub Fires : ℕ → List ℕ → SlaveValue → Answer → SlaveValue → Type 0
Fires channel signals v a w =
    MatchBool (nat_lt channel (length (layout_of v).events))
    (MatchBool (takes_signals (layout_of v) (length signals))
    (Samples channel (sampled channel v.time (with_signals signals v).transfer.pages v.daq) (with_signals signals v) a w)
    ((a ≡ answers.BadSignals) × (w ≡ v)))
    ((a ≡ answers.NoChannel) × (w ≡ v))

-- Signals that are handed over by themselves, from a place on: all these bytes have to lie in the signals area.
abbrev pub Hands : ℕ → List ℕ → SlaveValue → Answer → SlaveValue → Type 0
Hands place bytes v a w =
    MatchBool (nat_le (place + length bytes) (layout_of v).signals_length)
    ((a ≡ answers.Silent) × (w ≡ with_part place bytes v))
    ((a ≡ answers.BadSignals) × (w ≡ v))

-- the later of two times
abbrev pub later : ℕ → ℕ → ℕ
later now time = if nat_lt now time then time else now

-- The slave at a time that it is told. Its time never goes back: told an earlier one, it keeps its own.
-- (ASAM MCD-1 XCP, protocol layer: time stamps; description of commands: GET_DAQ_CLOCK.)
abbrev pub at_time : ℕ → SlaveValue → SlaveValue
at_time time v = record v { time = later v.time time }

-- The slave v answers a to the request and is then w. A hangup ends the session.
abbrev pub Answers : SlaveValue → Request → Answer → SlaveValue → Type 0
Answers v (requests.Command packet) a w = AnswersPacket v packet.items a w
Answers v (requests.Event channel signals) a w = Fires channel signals.items v a w
Answers v requests.Drain a w = Drains v.outbox v a w
Answers v requests.FinishStore a w = MatchBool v.store (Stores v a w) ((a ≡ answers.NoStore) × (w ≡ v))
Answers v requests.Hangup a w = (a ≡ answers.Silent) × (w ≡ ended v)
Answers v (requests.Time time) a w = (a ≡ answers.Silent) × (w ≡ at_time time v)
Answers v (requests.Signals place bytes) a w = Hands place bytes.items v a w
