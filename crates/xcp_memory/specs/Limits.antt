-- The limits of a layout's parts, and the fault of the first one that is broken.
use Rattle.std.specs.Prelude.{ℕ, ℤ, pos, negsuc, ◌+◌, Bool, false, ◌&&◌, ◌||◌, List, [], ◌∷◌, ◌++◌, length, map, sum_by, take, Option, nat_le, not, ◌==◌}
use Rattle.std.specs.List.{flat_map, enumerate_from, list_all}
use Rattle.xcp_packet.specs.Rows.{first_holding, must}
use Rattle.xcp_memory.specs.declared.class.Class.{Class}
use Rattle.xcp_memory.specs.declared.parts.Parts.{Parts}
use Rattle.xcp_memory.specs.declared.parts.SegmentPart.{SegmentPart}
use Rattle.xcp_memory.specs.declared.parts.EventPart.{EventPart}
use Rattle.xcp_memory.specs.declared.clock.ClockPart.{ClockPart}
use Rattle.xcp_memory.specs.declared.key.Key.{Key}
use Rattle.xcp_memory.specs.declared.key.Key.TheVariants as key
use Rattle.xcp_memory.specs.declared.key.LayoutFault.{LayoutFault}
use Rattle.xcp_memory.specs.declared.key.LayoutFault.TheVariants.{Range, Overlap, TooMany}
use Rattle.xcp_memory.specs.ClassLimits.{limits_of}
use Rattle.xcp_memory.specs.LayoutParts.{Placed, number, size, layout_from, areas}
use Rattle.xcp_memory.specs.Layout.{Extent}

-- a limit: the test that it is broken, and the fault if it is
abbrev pub Limit : Type 0
Limit = Bool × LayoutFault

-- a number from `least` to `most`
abbrev pub is_within : ℕ → ℕ → ℤ → Bool
is_within least most (pos n) = nat_le least n && nat_le n most
is_within least most (negsuc n) = false

-- a printable character of ASCII
abbrev pub is_printable : ℕ → Bool
is_printable b = nat_le 0x20 b && nat_le b 0x7E

-- 1 to `most` printable characters
abbrev pub is_text : ℕ → List ℕ → Bool
is_text most bytes = nat_le 1 (length bytes) && nat_le (length bytes) most && list_all is_printable bytes

-- up to `most` printable characters
abbrev pub is_text_or_none : ℕ → List ℕ → Bool
is_text_or_none most bytes = nat_le (length bytes) most && list_all is_printable bytes

abbrev pub is_address : ℤ → Bool
is_address a = is_within 0 0xFFFF_FFFE a

-- the last of n addresses from a on is one, too
abbrev pub ends_in_time : ℤ → ℕ → Bool
ends_in_time a n = nat_le (number a + n) 0xFFFF_FFFF

-- no address lies in both
abbrev pub is_apart : Extent → Extent → Bool
is_apart a b = nat_le (a.address + a.size) b.address || nat_le (b.address + b.size) a.address

-- a text of 1 to `most` printable characters, and a number from `least` to `most`
abbrev pub text_limit : ℕ → Key → List ℕ → Limit
text_limit most k bytes = must (is_text most bytes) (Range k)

abbrev pub number_limit : ℕ → ℕ → Key → ℤ → Limit
number_limit least most k n = must (is_within least most n) (Range k)

-- one at least, and so many at most
abbrev pub least_limit : Key → ℕ → Limit
least_limit k n = must (nat_le 1 n) (Range k)

abbrev pub most_limit : ℕ → Key → ℕ → Limit
most_limit most k n = must (nat_le n most) (TooMany k)

abbrev pub count_limits : ℕ → Key → ℕ → List Limit
count_limits most k n = least_limit k n ∷ most_limit most k n ∷ []

abbrev pub end_limit : Key → ℤ → ℕ → Limit
end_limit k a n = must (ends_in_time a n) (Range k)

-- the values of the slave itself
abbrev pub id_limit : List ℕ → Limit
id_limit = text_limit 64 key.Id

abbrev pub max_cto_limit : ℤ → Limit
max_cto_limit = number_limit 8 255 key.MaxCto

abbrev pub max_dto_limit : ℤ → Limit
max_dto_limit = number_limit 8 255 key.MaxDto

-- the clock: how many bytes a time stamp has, which are not three, the unit of time, and how many units a tick has
abbrev pub clock_limits : ClockPart → List Limit
clock_limits c =
    number_limit 0 4 key.ClockSize c.size
    ∷ must (not (number c.size == 3)) (Range key.ClockSize)
    ∷ number_limit 0 12 key.ClockUnit c.unit
    ∷ number_limit 1 65535 key.ClockTicks c.ticks
    ∷ []

-- the name of the A2L file, if there is one
abbrev pub a2l_limit : List ℕ → Limit
a2l_limit bytes = must (is_text_or_none 64 bytes) (Range key.A2l)

abbrev pub own_limits : Parts → List Limit
own_limits p =
    id_limit p.id.items
    ∷ max_cto_limit p.max_cto
    ∷ max_dto_limit p.max_dto
    ∷ number_limit 1 6 key.Checksum p.checksum
    ∷ a2l_limit p.extras.a2l.items
    ∷ clock_limits p.clock

-- how many segments there are, by the layout's class; of segment i the first address, its bytes, the bytes in all with its own, and its
-- pages
abbrev pub segment_counts : Class → ℕ → List Limit
segment_counts class = count_limits (limits_of class).segments key.Segment

abbrev pub address_limit : ℕ → ℤ → Limit
address_limit i = number_limit 0 0xFFFF_FFFE (key.Address i)

abbrev pub data_limit : ℕ → ℕ → Limit
data_limit i = least_limit (key.Data i)

abbrev pub total_limit : Class → ℕ → ℕ → Limit
total_limit class i = most_limit (limits_of class).bytes (key.Data i)

abbrev pub pages_limit : ℕ → ℤ → Limit
pages_limit i = number_limit 2 4 (key.Pages i)

-- segment i, with which there are so many bytes in all: each counts once, on however many pages it stands
abbrev pub segment_limits : Class → ℕ → ℕ → SegmentPart → List Limit
segment_limits class i total s =
    address_limit i s.address
    ∷ data_limit i (size s)
    ∷ total_limit class i total
    ∷ end_limit (key.Address i) s.address (size s)
    ∷ pages_limit i s.pages
    ∷ []

-- segment i of these, by the bytes up to its own
abbrev pub limits_in : Class → List SegmentPart → ℕ × SegmentPart → List Limit
limits_in class ss (i, s) = segment_limits class i (sum_by size (take (i + 1) ss)) s

abbrev pub segments_limits : Class → List SegmentPart → List Limit
segments_limits class ss = segment_counts class (length ss) ++ flat_map (limits_in class ss) (enumerate_from 0 ss)

-- where the signals stand, and how many bytes they have, by the layout's class
abbrev pub signals_address_limit : ℤ → Limit
signals_address_limit = number_limit 0 0xFFFF_FFFE key.SignalsAddress

abbrev pub signals_length_limit : Class → ℤ → Limit
signals_length_limit class = number_limit 1 (limits_of class).signals key.SignalsLength

abbrev pub signals_limits : Class → ℤ → ℤ → List Limit
signals_limits class address n =
    signals_address_limit address
    ∷ signals_length_limit class n
    ∷ end_limit key.SignalsAddress address (number n)
    ∷ []

-- how many event channels there are, by the layout's class; of event channel i the name and the three numbers
abbrev pub event_counts : Class → ℕ → List Limit
event_counts class = count_limits (limits_of class).events key.Event

abbrev pub name_limit : ℕ → List ℕ → Limit
name_limit i = text_limit 32 (key.Name i)

abbrev pub cycle_limit : ℕ → ℤ → Limit
cycle_limit i = number_limit 0 255 (key.Cycle i)

abbrev pub unit_limit : ℕ → ℤ → Limit
unit_limit i = number_limit 0 255 (key.Unit i)

abbrev pub priority_limit : ℕ → ℤ → Limit
priority_limit i = number_limit 0 255 (key.Priority i)

-- event channel i
abbrev pub event_limits : ℕ × EventPart → List Limit
event_limits (i, e) =
    name_limit i e.name.items
    ∷ cycle_limit i e.cycle
    ∷ unit_limit i e.unit
    ∷ priority_limit i e.priority
    ∷ []

abbrev pub events_limits : Class → List EventPart → List Limit
events_limits class es = event_counts class (length es) ++ flat_map event_limits (enumerate_from 0 es)

-- two areas share no address
abbrev pub apart_limit : Placed → Placed → Limit
apart_limit a b = must (is_apart a.extent b.extent) (Overlap a.area b.area)

-- each area shares no address with one behind it
abbrev pub apart_limits : List Placed → List Limit
apart_limits [] = []
apart_limits (a ∷ rest) = map (apart_limit a) rest ++ apart_limits rest

-- The limits of a layout's parts, in the order in which they are looked at.
-- (The ranges of the values are those of ASAM MCD-1 XCP, protocol layer, description of commands: CONNECT,
-- GET_ID, GET_SEGMENT_INFO, GET_DAQ_EVENT_INFO, BUILD_CHECKSUM; how many there may be is this product's.)
abbrev pub limits : Parts → List Limit
limits p =
    own_limits p
    ++ segments_limits p.class p.segments.items
    ++ signals_limits p.class p.signals_address p.signals_length
    ++ events_limits p.class p.events.items
    ++ apart_limits (areas (layout_from p))

-- the fault of the first limit that these parts break
abbrev pub first_fault : Parts → Option LayoutFault
first_fault p = first_holding (limits p)
