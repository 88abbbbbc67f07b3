-- What CONNECT and the commands that ask for limits are told.
use Rattle.std.proofs.Common.{◌≡◌, ◌≢◌, ℕ, ◌+◌, ◌-◌, ◌*◌, Bool, true, false, List, [], ◌∷◌, ◌++◌, length, Some, Result, Ok, refl, ap, subst, ◌∙◌}
use Rattle.std.specs.Prelude.{◌==◌, ◌||◌, ◌%◌, ◌/◌, MatchBool, if◌then◌else◌}
use Rattle.arrayvec.specs.ArrayVec.{ArrayVec}
use Rattle.xcp_packet.proofs.DecodingLaws.{decodes_once}
use Rattle.xcp_packet.specs.ByteOrder.{byte_order, double_bytes, word_bytes}
use Rattle.xcp_packet.specs.CommandSpelling.{spells}
use Rattle.xcp_packet.specs.Rows.{first_holding}
use Rattle.xcp_packet.specs.declared.Command.{Command}
use Rattle.xcp_packet.specs.declared.Command.TheVariants as commands
use Rattle.xcp_packet.specs.declared.Order.{Order}
use Rattle.xcp_packet.specs.declared.Order.TheVariants.{Intel, Motorola}
use Rattle.xcp_packet.specs.declared.Refuse.{Refuse}
use Rattle.xcp_packet.specs.declared.Stamp.{Stamp}
use Rattle.xcp_packet.specs.declared.Stamp.TheVariants.{Without, Byte, Word, Double}
use Rattle.xcp_packet.specs.TimeStamps.{stamp_size}
use Rattle.xcp_packet.specs.declared.Reply.{Reply}
use Rattle.xcp_memory.specs.declared.Clock.{Clock}
use Rattle.xcp_daq.specs.DaqLists.{has_stamp}
use Rattle.xcp_slave.specs.AcceptedCommands.{Accepts}
use Rattle.xcp_slave.specs.Outcomes.{Answer}
use Rattle.xcp_slave.specs.Rows.{row}
use Rattle.xcp_slave.specs.SlaveValue.{SlaveValue, layout_of}
use Rattle.xcp_slave.specs.Step.{Answers, Heeds, found_by}
use Rattle.xcp_slave.specs.declared.Request.TheVariants as requests
use Rattle.xcp_laws.proofs.PositiveAnswers.{executed, is_response, isnt, positive}
use Rattle.xcp_laws.proofs.ToldValues.{bytes-told}
use Rattle.xcp_laws.specs.AskedCommands.{IsAsked, IsPositive}

-- numbers

pub intel-word : (x : ℕ) → word_bytes Intel x ≡ x % 0x100 ∷ x / 0x100 % 0x100 ∷ []
intel-word x = refl

pub motorola-word : (x : ℕ) → word_bytes Motorola x ≡ x / 0x100 % 0x100 ∷ x % 0x100 ∷ []
motorola-word x = refl

pub intel-double : (x : ℕ) → double_bytes Intel x ≡ x % 0x100 ∷ x / 0x100 % 0x100 ∷ x / 0x1_0000 % 0x100 ∷ x / 0x100_0000 % 0x100 ∷ []
intel-double x = refl

pub motorola-double : (x : ℕ) → double_bytes Motorola x ≡ x / 0x100_0000 % 0x100 ∷ x / 0x1_0000 % 0x100 ∷ x / 0x100 % 0x100 ∷ x % 0x100 ∷ []
motorola-double x = refl

-- CONNECT

connected-by : (order : Order) (cto dto : ℕ) → List ℕ
connected-by order cto dto = 0x05 ∷ (0xC0 + byte_order order) ∷ cto ∷ (word_bytes order dto ++ 0x01 ∷ 0x01 ∷ [])

connect-told : (v w : SlaveValue) (mode : ℕ) (bytes : List ℕ) (order : Order) → (layout_of v).order ≡ order → Accepts v (commands.Connect mode) bytes w → bytes ≡ connected-by order (layout_of v).max_cto (layout_of v).max_dto
unfolding connected-by
connect-told v w mode bytes order e h =
    bytes-told (commands.Connect mode) v bytes w h ∙ ap (λ (o : Order). connected-by o (layout_of v).max_cto (layout_of v).max_dto) e

pub connect-intel : (v w : SlaveValue) (mode : ℕ) (bytes : List ℕ) → (layout_of v).order ≡ Intel → Accepts v (commands.Connect mode) bytes w → bytes ≡ 0x05 ∷ 0xC0 ∷ (layout_of v).max_cto ∷ (word_bytes Intel (layout_of v).max_dto ++ 0x01 ∷ 0x01 ∷ [])
unfolding connected-by
connect-intel v w mode bytes e h = connect-told v w mode bytes Intel e h

pub connect-motorola : (v w : SlaveValue) (mode : ℕ) (bytes : List ℕ) → (layout_of v).order ≡ Motorola → Accepts v (commands.Connect mode) bytes w → bytes ≡ 0x05 ∷ 0xC1 ∷ (layout_of v).max_cto ∷ (word_bytes Motorola (layout_of v).max_dto ++ 0x01 ∷ 0x01 ∷ [])
unfolding connected-by
connect-motorola v w mode bytes e h = connect-told v w mode bytes Motorola e h

heeded : (b : Bool) (P Q : Type 0) → MatchBool (b || true) P Q → P
heeded true P Q h = h
heeded false P Q h = h

pub connect-accepted : (v w : SlaveValue) (mode : ℕ) (packet : ArrayVec ℕ) (a : Answer) → spells (layout_of v).order (commands.Connect mode) packet.items → Answers v (requests.Command packet) a w → IsPositive a
connect-accepted v w mode packet a spelt h =
    let c : Command = commands.Connect mode in
    let same : h.0 ≡ Ok c = decodes_once (layout_of v).order packet.items h.0 (Ok c) h.1 spelt in
    let heeds : Heeds v (Ok c) a w = subst (λ (d : Result Command Refuse). Heeds v d a w) same h.2 in
    (executed c v w a _ refl refl (heeded v.connected _ _ heeds)).1 refl

-- the slave

pub comm-mode-told : (v w : SlaveValue) (bytes : List ℕ) → Accepts v commands.GetCommModeInfo bytes w → bytes ≡ 0x00 ∷ 0x01 ∷ 0x00 ∷ 8 ∷ 0 ∷ 0 ∷ 0x10 ∷ []
comm-mode-told v w bytes h = bytes-told commands.GetCommModeInfo v bytes w h

pub pag-told : (v w : SlaveValue) (bytes : List ℕ) → Accepts v commands.GetPagProcessorInfo bytes w → bytes ≡ length (layout_of v).segments ∷ 0x01 ∷ []
pag-told v w bytes h = bytes-told commands.GetPagProcessorInfo v bytes w h

-- whether there is a clock

no-clock : (s : Stamp) → s ≡ Without → has_stamp s ≡ false
no-clock s e = ap has_stamp e

pub a-clock : (s : Stamp) → s ≢ Without → has_stamp s ≡ true
a-clock Without n = absurd (n refl)
a-clock Byte n = refl
a-clock Word n = refl
a-clock Double n = refl

-- the lists and the event channels, behind properties that hang on whether there is a clock and whether lost samples are told
daq-by : SlaveValue → Bool → List ℕ
daq-by v b = (0x03 + (if b then 0x10 else 0) + (if (layout_of v).extras.tells_overload then 0x80 else 0)) ∷ (word_bytes (layout_of v).order (length v.daq.lists) ++ word_bytes (layout_of v).order (length (layout_of v).events) ++ 0 ∷ 0x00 ∷ [])

daq-bytes : (v w : SlaveValue) (bytes : List ℕ) → Accepts v commands.GetDaqProcessorInfo bytes w → bytes ≡ daq-by v (has_stamp (layout_of v).clock.stamp)
unfolding daq-by
daq-bytes v w bytes h = bytes-told commands.GetDaqProcessorInfo v bytes w h

pub daq-told : (v w : SlaveValue) (bytes : List ℕ) → (layout_of v).clock.stamp ≡ Without → Accepts v commands.GetDaqProcessorInfo bytes w → bytes ≡ (0x03 + (if (layout_of v).extras.tells_overload then 0x80 else 0)) ∷ (word_bytes (layout_of v).order (length v.daq.lists) ++ word_bytes (layout_of v).order (length (layout_of v).events) ++ 0 ∷ 0x00 ∷ [])
unfolding daq-by
daq-told v w bytes e h = daq-bytes v w bytes h ∙ ap (daq-by v) (no-clock (layout_of v).clock.stamp e)

pub daq-clock-told : (v w : SlaveValue) (bytes : List ℕ) → (layout_of v).clock.stamp ≢ Without → Accepts v commands.GetDaqProcessorInfo bytes w → bytes ≡ (0x13 + (if (layout_of v).extras.tells_overload then 0x80 else 0)) ∷ (word_bytes (layout_of v).order (length v.daq.lists) ++ word_bytes (layout_of v).order (length (layout_of v).events) ++ 0 ∷ 0x00 ∷ [])
unfolding daq-by
daq-clock-told v w bytes n h = daq-bytes v w bytes h ∙ ap (daq-by v) (a-clock (layout_of v).clock.stamp n)

-- the entries, and TIMESTAMP_MODE and TIMESTAMP_TICKS, which hang on that too
resolution-by : SlaveValue → Bool → List ℕ
resolution-by v b =
    let k : Clock = (layout_of v).clock in
    1 ∷ ((layout_of v).max_dto - 1) ∷ 1 ∷ 0 ∷ (if b then stamp_size k.stamp + 0x10 * k.unit else 0) ∷ word_bytes (layout_of v).order (if b then k.ticks else 0)

resolution-bytes : (v w : SlaveValue) (bytes : List ℕ) → Accepts v commands.GetDaqResolutionInfo bytes w → bytes ≡ resolution-by v (has_stamp (layout_of v).clock.stamp)
unfolding resolution-by
resolution-bytes v w bytes h = bytes-told commands.GetDaqResolutionInfo v bytes w h

no-word : (order : Order) → word_bytes order 0 ≡ 0 ∷ 0 ∷ []
no-word Intel = refl
no-word Motorola = refl

pub resolution-told : (v w : SlaveValue) (bytes : List ℕ) → (layout_of v).clock.stamp ≡ Without → Accepts v commands.GetDaqResolutionInfo bytes w → bytes ≡ 1 ∷ ((layout_of v).max_dto - 1) ∷ 1 ∷ 0 ∷ 0 ∷ 0 ∷ 0 ∷ []
unfolding resolution-by
resolution-told v w bytes e h =
    resolution-bytes v w bytes h
    ∙ ap (resolution-by v) (no-clock (layout_of v).clock.stamp e)
    ∙ ap (λ (xs : List ℕ). 1 ∷ ((layout_of v).max_dto - 1) ∷ 1 ∷ 0 ∷ 0 ∷ xs) (no-word (layout_of v).order)

pub resolution-clock-told : (v w : SlaveValue) (bytes : List ℕ) → (layout_of v).clock.stamp ≢ Without → Accepts v commands.GetDaqResolutionInfo bytes w → bytes ≡ 1 ∷ ((layout_of v).max_dto - 1) ∷ 1 ∷ 0 ∷ (stamp_size (layout_of v).clock.stamp + 0x10 * (layout_of v).clock.unit) ∷ word_bytes (layout_of v).order (layout_of v).clock.ticks
unfolding resolution-by
resolution-clock-told v w bytes n h = resolution-bytes v w bytes h ∙ ap (resolution-by v) (a-clock (layout_of v).clock.stamp n)

pub stamp-sizes : (stamp_size Byte ≡ 1) × (stamp_size Word ≡ 2) × (stamp_size Double ≡ 4)
stamp-sizes = (refl, refl, refl)

pub clock-told : (v w : SlaveValue) (bytes : List ℕ) → Accepts v commands.GetDaqClock bytes w → bytes ≡ 0 ∷ 0 ∷ 0 ∷ double_bytes (layout_of v).order (v.time % 0x1_0000_0000)
clock-told v w bytes h = bytes-told commands.GetDaqClock v bytes w h

-- a page

pub reference-told : (v w : SlaveValue) (segment : ℕ) (bytes : List ℕ) → Accepts v (commands.GetPageInfo segment 0) bytes w → bytes ≡ 0x0F ∷ segment ∷ []
reference-told v w segment bytes h = bytes-told (commands.GetPageInfo segment 0) v bytes w h

working : (t : Bool) (segment : ℕ) → t ≡ false → ◌≡◌ {A = List ℕ} ((if t then 0x0F else 0x3F) ∷ segment ∷ []) (0x3F ∷ segment ∷ [])
working true segment e = cc
working false segment e = refl

pub working-told : (v w : SlaveValue) (segment page : ℕ) (bytes : List ℕ) → page ≢ 0 → Accepts v (commands.GetPageInfo segment page) bytes w → bytes ≡ 0x3F ∷ segment ∷ []
working-told v w segment page bytes other h = bytes-told (commands.GetPageInfo segment page) v bytes w h ∙ working (page == 0) segment ((isnt page 0).1 other)

-- what is never refused

always : (c : Command) (v w : SlaveValue) (a : Answer) (reply : Reply) → (row c (found_by c v)).refusals ≡ [] → (row c (found_by c v)).reply ≡ Some reply → is_response reply ≡ true → IsAsked v c a w → IsPositive a
always c v w a reply none r p h = (positive c v w a reply r p h).1 (ap first_holding none)

pub disconnect-accepted : (v w : SlaveValue) (a : Answer) → IsAsked v commands.Disconnect a w → IsPositive a
disconnect-accepted v w a h = always commands.Disconnect v w a _ refl refl refl h

pub status-accepted : (v w : SlaveValue) (a : Answer) → IsAsked v commands.GetStatus a w → IsPositive a
status-accepted v w a h = always commands.GetStatus v w a _ refl refl refl h

pub comm-mode-accepted : (v w : SlaveValue) (a : Answer) → IsAsked v commands.GetCommModeInfo a w → IsPositive a
comm-mode-accepted v w a h = always commands.GetCommModeInfo v w a _ refl refl refl h

pub id-accepted : (v w : SlaveValue) (kind : ℕ) (a : Answer) → IsAsked v (commands.GetId kind) a w → IsPositive a
id-accepted v w kind a h = always (commands.GetId kind) v w a _ refl refl refl h

pub pag-accepted : (v w : SlaveValue) (a : Answer) → IsAsked v commands.GetPagProcessorInfo a w → IsPositive a
pag-accepted v w a h = always commands.GetPagProcessorInfo v w a _ refl refl refl h

pub daq-accepted : (v w : SlaveValue) (a : Answer) → IsAsked v commands.GetDaqProcessorInfo a w → IsPositive a
daq-accepted v w a h = always commands.GetDaqProcessorInfo v w a _ refl refl refl h

pub resolution-accepted : (v w : SlaveValue) (a : Answer) → IsAsked v commands.GetDaqResolutionInfo a w → IsPositive a
resolution-accepted v w a h = always commands.GetDaqResolutionInfo v w a _ refl refl refl h

pub free-accepted : (v w : SlaveValue) (a : Answer) → IsAsked v commands.FreeDaq a w → IsPositive a
free-accepted v w a h = always commands.FreeDaq v w a _ refl refl refl h
