-- The layout that parts make.
use Rattle.std.specs.Prelude.{ℕ, ℤ, pos, negsuc, List, [], ◌∷◌, ◌++◌, length, map, ◌==◌, None, if◌then◌else◌}
use Rattle.std.specs.List.{enumerate_from}
use Rattle.xcp_memory.specs.declared.parts.Parts.{Parts}
use Rattle.xcp_memory.specs.declared.parts.SegmentPart.{SegmentPart}
use Rattle.xcp_memory.specs.declared.parts.EventPart.{EventPart}
use Rattle.xcp_packet.specs.declared.Stamp.{Stamp}
use Rattle.xcp_packet.specs.declared.Stamp.TheVariants.{Without, Byte, Word, Double}
use Rattle.xcp_memory.specs.declared.clock.Clock.{Clock}
use Rattle.xcp_memory.specs.declared.clock.ClockPart.{ClockPart}
use Rattle.xcp_memory.specs.declared.extras.ExtrasPart.{ExtrasPart}
use Rattle.xcp_memory.specs.declared.key.Area.{Area}
use Rattle.xcp_memory.specs.declared.key.Area.TheVariants as area
use Rattle.xcp_memory.specs.declared.checksum_kind.ChecksumKind.{ChecksumKind}
use Rattle.xcp_memory.specs.declared.checksum_kind.ChecksumKind.TheVariants.{Add11, Add12, Add14, Add22, Add24, Add44}
use Rattle.xcp_memory.specs.Layout.{LayoutValue, SegmentValue, EventValue, ExtrasValue, Extent, segment_extent, signals_extent}

-- a number that isn't negative
abbrev pub number : ℤ → ℕ
number (pos n) = n
number (negsuc n) = 0

-- how many bytes a segment has
abbrev pub size : SegmentPart → ℕ
size s = length s.bytes.items

-- the type of checksums with this number
abbrev pub kind_numbered : ℕ → ChecksumKind
kind_numbered n =
    if n == 1 then Add11
    else (if n == 2 then Add12
    else (if n == 3 then Add14
    else (if n == 4 then Add22
    else (if n == 5 then Add24
    else Add44))))

-- the time stamp with so many bytes
abbrev pub stamp_sized : ℕ → Stamp
stamp_sized n =
    if n == 0 then Without
    else (if n == 1 then Byte
    else (if n == 2 then Word
    else Double))

-- the clock of this part
abbrev pub clock_of : ClockPart → Clock
clock_of c = record { stamp = stamp_sized (number c.size); unit = number c.unit; ticks = number c.ticks }

-- What a slave has beyond others, by this part: the A2L file is made later.
abbrev pub extras_of : ExtrasPart → ExtrasValue
extras_of e = record { a2l = e.a2l.items; uploads_a2l = e.uploads_a2l; tells_overload = e.tells_overload; file = None }

abbrev pub segment_of_part : SegmentPart → SegmentValue
segment_of_part s = record { address = number s.address; bytes = s.bytes.items; pages = number s.pages }

abbrev pub event_of_part : EventPart → EventValue
event_of_part e = record { name = e.name.items; cycle = number e.cycle; unit = number e.unit; priority = number e.priority }

-- the layout of these parts
abbrev pub layout_from : Parts → LayoutValue
layout_from p = record {
  class = p.class;
  id = p.id.items;
  max_cto = number p.max_cto;
  max_dto = number p.max_dto;
  checksum = kind_numbered (number p.checksum);
  order = p.order;
  clock = clock_of p.clock;
  segments = map segment_of_part p.segments.items;
  signals_address = number p.signals_address;
  signals_length = number p.signals_length;
  events = map event_of_part p.events.items;
  extras = extras_of p.extras;
}

-- an area by its name, and where it lies
pub record Placed : Type 0 where
  pub area : Area
  pub extent : Extent

abbrev pub placed_segment : ℕ × SegmentValue → Placed
placed_segment (i, s) = record { area = area.Segment i; extent = segment_extent s }

-- the areas of a layout in order, by name
abbrev pub areas : LayoutValue → List Placed
areas l = map placed_segment (enumerate_from 0 l.segments) ++ (record { area = area.Signals; extent = signals_extent l }) ∷ []
