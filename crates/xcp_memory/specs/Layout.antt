-- A layout: what a controller shows to a calibration tool.
use Rattle.std.specs.Prelude.{◌≡◌, ℕ, Bool, false, Option, Some, None, List, [], ◌∷◌, ◌++◌, length, map, sum_by, All, ◌+◌, ◌<◌, ◌≤◌, ◌⊎◌, slice_index_or as get_or}
use Rattle.xcp_packet.specs.declared.Order.{Order}
use Rattle.xcp_memory.specs.declared.class.Class.{Class}
use Rattle.xcp_memory.specs.declared.clock.Clock.{Clock}
use Rattle.xcp_memory.specs.declared.checksum_kind.ChecksumKind.{ChecksumKind}
use Rattle.xcp_memory.specs.ClassLimits.{limits_of}

-- A segment: its first address, the bytes of its reference page, and how many pages it has.
-- (ASAM MCD-1 XCP, protocol layer: calibration data segments and pages.)
pub record SegmentValue : Type 0 where
  pub address : ℕ
  pub bytes : List ℕ
  pub pages : ℕ

-- An event channel: its name, and its time cycle, time unit and priority, which are handed on as they are.
-- (ASAM MCD-1 XCP, protocol layer, description of commands: GET_DAQ_EVENT_INFO.)
pub record EventValue : Type 0 where
  pub name : List ℕ
  pub cycle : ℕ
  pub unit : ℕ
  pub priority : ℕ

-- An A2L file: what identifies it, its EPK, and its text.
pub record A2lFileValue : Type 0 where
  pub epk : List ℕ
  pub text : List ℕ

-- the limits of an A2L file
pub record IsA2lFile (f : A2lFileValue) : Type 0 where
  pub epk_most : length f.epk ≤ 64
  pub text_most : length f.text ≤ 1048576

-- What a slave has beyond others, where its layout asks for it: the name of its A2L file, of no bytes if there is none; whether
-- tools get the file from the slave, and may send the commands that came with later versions of the standard; whether a lost
-- sample is told by an event packet; and the file, once it is made.
-- (ASAM MCD-1 XCP, protocol layer, description of commands: GET_ID; event packets: EV_DAQ_OVERLOAD.)
pub record ExtrasValue : Type 0 where
  pub a2l : List ℕ
  pub uploads_a2l : Bool
  pub tells_overload : Bool
  pub file : Option A2lFileValue

-- the same file, or one without bytes
abbrev pub file_or_none : Option A2lFileValue → A2lFileValue
file_or_none None = record { epk = []; text = [] }
file_or_none (Some file) = file

-- what identifies the A2L file, its EPK, and its text: of no bytes where there is no file
abbrev pub epk : ExtrasValue → List ℕ
epk e = (file_or_none e.file).epk

abbrev pub description : ExtrasValue → List ℕ
description e = (file_or_none e.file).text

-- nothing of it
abbrev pub no_extras : ExtrasValue
no_extras = record { a2l = []; uploads_a2l = false; tells_overload = false; file = None }

-- the same with this A2L file
abbrev pub with_file : A2lFileValue → ExtrasValue → ExtrasValue
with_file file e = record e { file = Some file }

-- The class, whose limits hold, the identification, the greatest lengths of command and data packets (MAX_CTO, MAX_DTO), the type of
-- checksums, the byte order of words and double words in packets, the clock, the segments, where the signals stand that the
-- controller measures, the event channels, and what the slave has beyond others.
pub record LayoutValue : Type 0 where
  pub class : Class
  pub id : List ℕ
  pub max_cto : ℕ
  pub max_dto : ℕ
  pub checksum : ChecksumKind
  pub order : Order
  pub clock : Clock
  pub segments : List SegmentValue
  pub signals_address : ℕ
  pub signals_length : ℕ
  pub events : List EventValue
  pub extras : ExtrasValue

-- The layout asks for nothing that only some slaves have.
abbrev pub IsPlain : LayoutValue → Type 0
IsPlain l = l.extras ≡ no_extras

-- the layout with this A2L file
abbrev pub described : A2lFileValue → LayoutValue → LayoutValue
described file l = record l { extras = with_file file l.extras }

-- where an area lies: its first address and how many bytes it has
pub record Extent : Type 0 where
  pub address : ℕ
  pub size : ℕ

abbrev pub segment_extent : SegmentValue → Extent
segment_extent s = record { address = s.address; size = length s.bytes }

abbrev pub signals_extent : LayoutValue → Extent
signals_extent l = record { address = l.signals_address; size = l.signals_length }

-- the areas of a layout in order: the segments, and then the signals
abbrev pub extents : LayoutValue → List Extent
extents l = map segment_extent l.segments ++ signals_extent l ∷ []

-- no address lies in both
abbrev pub IsApart : Extent → Extent → Type 0
IsApart a b = (a.address + a.size ≤ b.address) ⊎ (b.address + b.size ≤ a.address)

abbrev pub no_extent : Extent
no_extent = record { address = 0; size = 0 }

abbrev pub no_event : EventValue
no_event = record { name = []; cycle = 0; unit = 0; priority = 0 }

-- a printable character of ASCII
abbrev pub IsPrintable : ℕ → Type 0
IsPrintable b = (0x20 ≤ b) × (b ≤ 0x7E)

-- the limits of what a slave has beyond others
pub record IsExtras (e : ExtrasValue) : Type 0 where
  pub a2l_most : length e.a2l ≤ 64
  pub a2l_text : All IsPrintable e.a2l
  pub file : IsA2lFile (file_or_none e.file)

-- the limits of a layout
pub record IsLayout (l : LayoutValue) : Type 0 where
  pub cto_least : 8 ≤ l.max_cto
  pub cto_most : l.max_cto ≤ 255
  pub dto_least : 8 ≤ l.max_dto
  pub dto_most : l.max_dto ≤ 255
  pub id_least : 1 ≤ length l.id
  pub id_most : length l.id ≤ 64
  pub id_text : All IsPrintable l.id
  pub unit_most : l.clock.unit ≤ 12
  pub ticks_least : 1 ≤ l.clock.ticks
  pub ticks_most : l.clock.ticks ≤ 65535
  pub segments_least : 1 ≤ length l.segments
  pub segments_most : length l.segments ≤ (limits_of l.class).segments
  pub filled : All (λ s. 1 ≤ length s.bytes) l.segments
  pub total : sum_by (λ s. length s.bytes) l.segments ≤ (limits_of l.class).bytes
  pub paged : All (λ s. (2 ≤ s.pages) × (s.pages ≤ 4)) l.segments
  pub signals_least : 1 ≤ l.signals_length
  pub signals_most : l.signals_length ≤ (limits_of l.class).signals
  pub events_least : 1 ≤ length l.events
  pub events_most : length l.events ≤ (limits_of l.class).events
  pub names : All (λ e. (1 ≤ length e.name) × (length e.name ≤ 32)) l.events
  pub name_texts : All (λ e. All IsPrintable e.name) l.events
  pub last : All (λ e. e.address + e.size ≤ 0xFFFF_FFFF) (extents l)
  pub apart : (i j : ℕ) → i < j → j < length (extents l) → IsApart (get_or (extents l) i no_extent) (get_or (extents l) j no_extent)
  pub extras : IsExtras l.extras
