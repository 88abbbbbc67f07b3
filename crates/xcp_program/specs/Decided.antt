-- What decides the answers of a slave: the layout that it begins with, as bytes.
use Rattle.std.specs.Prelude.{ℕ, Bool, true, false, List, [], ◌∷◌, ◌++◌, length}
use Rattle.std.specs.Int.{w16, w32, to_le_bytes}
use Rattle.std.specs.List.{flat_map}
use Rattle.xcp_packet.specs.ByteOrder.{byte_order}
use Rattle.xcp_packet.specs.TimeStamps.{stamp_size}
use Rattle.xcp_memory.specs.declared.class.Class.{Class}
use Rattle.xcp_memory.specs.declared.class.Class.TheVariants.{Papers, Large}
use Rattle.xcp_memory.specs.Checksum.{checksum_number}
use Rattle.xcp_memory.specs.Layout.{EventValue, ExtrasValue, LayoutValue, SegmentValue, description, epk}

-- bytes behind how many they are, in four bytes, the low one first
unfoldable pub bytes_decided : List ℕ → List ℕ
bytes_decided bytes = to_le_bytes w32 (length bytes) ++ bytes

-- whether something is so: 1, or else 0
abbrev pub flag : Bool → ℕ
flag true = 1
flag false = 0

-- Of the slave itself: its identification; MAX_CTO, MAX_DTO, the number of the type of checksums, BYTE_ORDER, how many bytes a time stamp has,
-- and the unit of time, a byte each; the ticks in two bytes.
unfoldable pub own_decided : LayoutValue → List ℕ
own_decided l =
    bytes_decided l.id
    ++ (l.max_cto ∷ l.max_dto ∷ checksum_number l.checksum ∷ byte_order l.order ∷ stamp_size l.clock.stamp ∷ l.clock.unit ∷ [])
    ++ to_le_bytes w16 l.clock.ticks

-- Of a segment its first address, in four bytes, its reference bytes, and how many pages it has, in one.
unfoldable pub segment_decided : SegmentValue → List ℕ
segment_decided s = to_le_bytes w32 s.address ++ bytes_decided s.bytes ++ s.pages ∷ []

-- Of the signals their first address and how many bytes they are, four bytes each.
unfoldable pub signals_decided : LayoutValue → List ℕ
signals_decided l = to_le_bytes w32 l.signals_address ++ to_le_bytes w32 l.signals_length

-- Of an event channel its name; its time cycle, time unit and priority, a byte each.
unfoldable pub event_decided : EventValue → List ℕ
event_decided e = bytes_decided e.name ++ e.cycle ∷ e.unit ∷ e.priority ∷ []

-- Of what the slave has beyond others the A2L file's name; whether tools get the file, and whether a lost sample is told, a byte each; the
-- file's EPK and its text, of no bytes where there is no file.
unfoldable pub extras_decided : ExtrasValue → List ℕ
extras_decided e =
    bytes_decided e.a2l ++ (flag e.uploads_a2l ∷ flag e.tells_overload ∷ []) ++ bytes_decided (epk e) ++ bytes_decided (description e)

-- Of `Papers` nothing, so that what was written before there were classes is of the same layouts; of `Large` a 1.
unfoldable pub class_decided : Class → List ℕ
class_decided Papers = []
class_decided Large = 1 ∷ []

-- things behind how many they are, in four bytes
unfoldable pub all_decided : {A : Type 0} → (A → List ℕ) → List A → List ℕ
all_decided decided things = to_le_bytes w32 (length things) ++ flat_map decided things

-- Of a layout all that it is, each number with its low byte first: nothing else of a layout file decides an answer, as a comment in it.
unfoldable pub answers_decided : LayoutValue → List ℕ
answers_decided l =
    own_decided l
    ++ all_decided segment_decided l.segments
    ++ signals_decided l
    ++ all_decided event_decided l.events
    ++ extras_decided l.extras
    ++ class_decided l.class
