-- The layout that the table of a configuration has.
use Rattle.std.specs.Prelude.{ℕ, ℤ, pos, Bool, false, List, [], ◌∷◌, map, length, codes, Option, Some, None, unwrap_or}
use Rattle.toml.specs.Data.{Data, integer, string, table, no_members, get}
use Rattle.xcp_packet.specs.declared.Order.{Order}
use Rattle.xcp_packet.specs.declared.Order.TheVariants.{Intel}
use Rattle.xcp_memory.specs.declared.Class.{Class}
use Rattle.xcp_memory.specs.declared.Class.TheVariants.{Papers}
use Rattle.xcp_memory.specs.declared.ChecksumKind.{ChecksumKind}
use Rattle.xcp_memory.specs.declared.ChecksumKind.TheVariants.{Add14}
use Rattle.xcp_memory.specs.LayoutParts.{number, clock_of}
use Rattle.xcp_memory.specs.declared.ClockPart.{ClockPart}
use Rattle.xcp_memory.specs.Layout.{LayoutValue, SegmentValue, EventValue, ExtrasValue}
use Rattle.xcp_config.specs.TomlValues.{optional, value_text, integer_of, boolean_of, bytes_in_hex, members_of, named, byte_orders, checksums, classes, overloads}

-- the byte order, `intel` where none is given
abbrev pub byte_order_of : Data → Option Data
byte_order_of t = optional (string (codes "intel")) (get (codes "byte_order") t)

abbrev pub order_in : Data → Order
order_in t = unwrap_or (named byte_orders (value_text (byte_order_of t))) Intel

-- the type of checksums, ADD_14 where none is given
abbrev pub checksum_in_table : Data → Option Data
checksum_in_table t = optional (string (codes "ADD_14")) (get (codes "checksum") t)

abbrev pub checksum_in : Data → ChecksumKind
checksum_in t = unwrap_or (named checksums (value_text (checksum_in_table t))) Add14

-- the class, `papers` where none is given
abbrev pub class_of : Data → Option Data
class_of t = optional (string (codes "papers")) (get (codes "class") t)

abbrev pub class_in : Data → Class
class_in t = unwrap_or (named classes (value_text (class_of t))) Papers

-- the name of the A2L file, of no bytes where none is given
abbrev pub a2l_in : Data → List ℕ
a2l_in t = value_text (get (codes "a2l") t)

-- whether tools get the A2L file from the slave, which they don't where nothing is said
abbrev pub uploads_in : Data → Bool
uploads_in t = boolean_of (get (codes "upload_a2l") t)

-- whether an event packet tells of lost samples, which none does where nothing is said
abbrev pub overload_in : Data → Bool
overload_in t = unwrap_or (named overloads (value_text (get (codes "overload") t))) false

-- what only some slaves have: the A2L file itself is made later
abbrev pub extras_in : Data → ExtrasValue
extras_in t = record { a2l = a2l_in t; uploads_a2l = uploads_in t; tells_overload = overload_in t; file = None }

-- a number of the clock, or its default where none is given
abbrev pub clock_setting : List ℕ → ℕ → Data → Option Data
clock_setting name default c = optional (integer (pos default)) (get name c)

-- the clock of a table `clock`: time stamps of four bytes, and ticks of a microsecond, where it says nothing else
abbrev pub clock_part : Data → ClockPart
clock_part c = record {
  size = integer_of (clock_setting (codes "size") 4 c);
  unit = integer_of (clock_setting (codes "unit") 3 c);
  ticks = integer_of (clock_setting (codes "ticks") 1 c);
}

-- no time stamps
abbrev pub no_clock : ClockPart
no_clock = record { size = pos 0; unit = pos 0; ticks = pos 1 }

-- there are none without such a table
abbrev pub clock_in : Option Data → ClockPart
clock_in None = no_clock
clock_in (Some c) = clock_part c

abbrev pub clock_key : Data → Option Data
clock_key t = get (codes "clock") t

-- the bytes of the file that a segment's table names, if there is such a file
abbrev pub File : Type 0
File = Option (List ℕ)

-- a segment's table, behind the file that it names
abbrev pub Filed : Type 0
Filed = File × Data

-- each table with its file: none where there is none for its number
abbrev pub filed : List File → List Data → List Filed
filed files [] = []
filed [] (s ∷ ss) = (None, s) ∷ filed [] ss
filed (file ∷ files) (s ∷ ss) = (file, s) ∷ filed files ss

-- the tables of the array `segment`, and these with the files that they name, by their numbers
abbrev pub segment_tables : Data → List Data
segment_tables t = members_of (get (codes "segment") t)

abbrev pub segments_of : List File → Data → List Filed
segments_of files t = filed files (segment_tables t)

-- the tables of the array `event`
abbrev pub event_tables : Data → List Data
event_tables t = members_of (get (codes "event") t)

-- the table `signals`
abbrev pub signals_table : Data → Data
signals_table t = unwrap_or (get (codes "signals") t) (table no_members)

-- a segment's first address
abbrev pub address_of : Data → ℤ
address_of s = integer_of (get (codes "address") s)

-- where a segment's table names a file
abbrev pub file_key : Data → Option Data
file_key s = get (codes "data_file") s

-- a segment's bytes, which are those of its file, where its table names one, and else those that its table writes; and how many there are
abbrev pub data_by : Option Data → Filed → List ℕ
data_by None (file, s) = bytes_in_hex (get (codes "data") s)
data_by (Some name) (file, s) = unwrap_or file []

abbrev pub data_of : Filed → List ℕ
data_of (file, s) = data_by (file_key s) (file, s)

abbrev pub size_of : Filed → ℕ
size_of s = length (data_of s)

-- how many pages a segment has, 2 where no number is given
abbrev pub pages_of : Data → Option Data
pages_of s = optional (integer (pos 2)) (get (codes "pages") s)

-- how many bytes of signals there are
abbrev pub length_of : Data → ℤ
length_of s = integer_of (get (codes "length") s)

-- a number of an event channel, 0 where none is given
abbrev pub setting : List ℕ → Data → Option Data
setting name e = optional (integer (pos 0)) (get name e)

abbrev pub segment_in : Filed → SegmentValue
segment_in (file, s) = record { address = number (address_of s); bytes = data_of (file, s); pages = number (integer_of (pages_of s)) }

abbrev pub event_in : Data → EventValue
event_in e = record {
  name = value_text (get (codes "name") e);
  cycle = number (integer_of (setting (codes "cycle") e));
  unit = number (integer_of (setting (codes "unit") e));
  priority = number (integer_of (setting (codes "priority") e));
}

-- the layout, with these files, where no check of the table fails
abbrev pub layout_in : List File → Data → LayoutValue
layout_in files t = record {
  class = class_in t;
  id = value_text (get (codes "id") t);
  max_cto = number (integer_of (get (codes "max_cto") t));
  max_dto = number (integer_of (get (codes "max_dto") t));
  checksum = checksum_in t;
  order = order_in t;
  clock = clock_of (clock_in (clock_key t));
  segments = map segment_in (segments_of files t);
  signals_address = number (address_of (signals_table t));
  signals_length = number (length_of (signals_table t));
  events = map event_in (event_tables t);
  extras = extras_in t;
}
