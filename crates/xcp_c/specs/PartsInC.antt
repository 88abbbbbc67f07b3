-- A layout as a C program says it, in a struct and without a text.
use Rattle.std.specs.Prelude.{◌≡◌, ℕ, ℤ, pos, Bool, ◌==◌, not, List, [], ◌∷◌, map, sum_by, take, drop, if◌then◌else◌}
use Rattle.std.specs.List.{before_first}
use Rattle.xcp_memory.specs.declared.class.Class.TheVariants.{Papers}
use Rattle.xcp_memory.specs.declared.clock.ClockPart.{ClockPart}
use Rattle.xcp_memory.specs.declared.parts.EventPart.{EventPart}
use Rattle.xcp_memory.specs.declared.parts.Parts.{Parts}
use Rattle.xcp_memory.specs.declared.parts.SegmentPart.{SegmentPart}
use Rattle.xcp_packet.specs.declared.Order.{Order}
use Rattle.xcp_packet.specs.declared.Order.TheVariants.{Intel, Motorola}
use Rattle.xcp_c.specs.declared.parts.XcpChannel.{XcpChannel}
use Rattle.xcp_c.specs.declared.parts.XcpParts.{XcpParts}
use Rattle.xcp_c.specs.declared.parts.XcpSegment.{XcpSegment}

-- a byte that is 0
abbrev pub is_zero : ℕ → Bool
is_zero b = b == 0

-- a text: the bytes in front of the first 0, or all where there is none
abbrev pub text_in : List ℕ → List ℕ
text_in bytes = before_first is_zero bytes

-- a number, or this one where it is 0
abbrev pub or_else : ℕ → ℕ → ℕ
or_else usual n = if n == 0 then usual else n

-- yes, which is any number but 0
abbrev pub is_said : ℕ → Bool
is_said n = not (n == 0)

-- the segments, and the event channels
abbrev pub segments_said : XcpParts → List XcpSegment
segments_said c = take c.segments c.segment

abbrev pub channels_said : XcpParts → List XcpChannel
channels_said c = take c.channels c.channel

-- how many bytes a segment has
abbrev pub bytes_said : XcpSegment → ℕ
bytes_said s = s.bytes

-- a segment, and an event channel, before their limits are looked at
pub record Segment : Type 0 where
  pub address : ℤ
  pub bytes : List ℕ
  pub pages : ℤ

pub record Channel : Type 0 where
  pub name : List ℕ
  pub cycle : ℤ
  pub unit : ℤ
  pub priority : ℤ

abbrev pub segment_of_struct : SegmentPart → Segment
segment_of_struct s = record { address = s.address; bytes = s.bytes.items; pages = s.pages }

abbrev pub channel_of_struct : EventPart → Channel
channel_of_struct e = record { name = e.name.items; cycle = e.cycle; unit = e.unit; priority = e.priority }

-- Segments whose reference bytes stand one behind the other: 2 pages where nothing is said.
abbrev pub segments_in : List XcpSegment → List ℕ → List Segment
segments_in [] reference = []
segments_in (s ∷ ss) reference =
    (record { address = pos s.address; bytes = take s.bytes reference; pages = pos (or_else 2 s.pages) })
    ∷ segments_in ss (drop s.bytes reference)

abbrev pub channel_in : XcpChannel → Channel
channel_in e = record { name = text_in e.name; cycle = pos e.cycle; unit = pos e.unit; priority = pos e.priority }

-- the clock: none where a time stamp has no byte; else a tick has one unit where nothing is said
abbrev pub clock_of_struct : XcpParts → ClockPart
clock_of_struct c =
    if c.clock_size == 0 then record { size = pos 0; unit = pos 0; ticks = pos 1 }
    else record { size = pos c.clock_size; unit = pos c.clock_unit; ticks = pos (or_else 1 c.clock_ticks) }

-- What the struct says, with these reference bytes: a layout of the class of 2,040 bytes; checksums are ADD_14 where nothing is said.
pub record Says (c : XcpParts) (reference : List ℕ) (p : Parts) : Type 0 where
  pub class : p.class ≡ Papers
  pub id : p.id.items ≡ text_in c.id
  pub max_cto : p.max_cto ≡ pos c.max_cto
  pub max_dto : p.max_dto ≡ pos c.max_dto
  pub checksum : p.checksum ≡ pos (or_else 3 c.checksum)
  pub order : p.order ≡ (if c.motorola == 0 then Intel else Motorola)
  pub clock : p.clock ≡ clock_of_struct c
  pub segments : map segment_of_struct p.segments.items ≡ segments_in (segments_said c) reference
  pub signals_address : p.signals_address ≡ pos c.signals_address
  pub signals_length : p.signals_length ≡ pos c.signals_bytes
  pub events : map channel_of_struct p.events.items ≡ map channel_in (channels_said c)
  pub a2l : p.extras.a2l.items ≡ text_in c.a2l
  pub uploads : p.extras.uploads_a2l ≡ is_said c.upload_a2l
  pub overload : p.extras.tells_overload ≡ is_said c.overload_event
