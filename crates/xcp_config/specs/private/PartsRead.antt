-- What was read of a table, beside what the table has.
use Rattle.std.specs.Prelude.{◌≡◌, ℕ, ℤ, List, true, map, codes}
use Rattle.toml.specs.Data.{Data, get}
use Rattle.xcp_memory.specs.declared.SegmentPart.{SegmentPart}
use Rattle.xcp_memory.specs.declared.EventPart.{EventPart}
use Rattle.xcp_memory.specs.declared.Parts.{Parts}
use Rattle.xcp_memory.specs.LayoutParts.{number, kind_numbered, extras_of}
use Rattle.xcp_memory.specs.Limits.{is_within}
use Rattle.xcp_config.specs.TomlValues.{value_text, integer_of}
use Rattle.xcp_config.specs.TableLayout.{File, Filed, order_in, checksum_in, class_in, extras_in, clock_in, clock_key, segments_of, signals_table, event_tables, address_of, data_of, pages_of, length_of, setting}

-- a segment before its limits are looked at
pub record ReadSegment : Type 0 where
  pub address : ℤ
  pub bytes : List ℕ
  pub pages : ℤ

abbrev pub segment_read : SegmentPart → ReadSegment
segment_read s = record { address = s.address; bytes = s.bytes.items; pages = s.pages }

abbrev pub segment_in_parts : Filed → ReadSegment
segment_in_parts (file, d) = record { address = address_of d; bytes = data_of (file, d); pages = integer_of (pages_of d) }

-- an event channel before its limits are looked at
pub record Event : Type 0 where
  pub name : List ℕ
  pub cycle : ℤ
  pub unit : ℤ
  pub priority : ℤ

abbrev pub event_read : EventPart → Event
event_read e = record { name = e.name.items; cycle = e.cycle; unit = e.unit; priority = e.priority }

abbrev pub event_written : Data → Event
event_written d = record {
  name = value_text (get (codes "name") d);
  cycle = integer_of (setting (codes "cycle") d);
  unit = integer_of (setting (codes "unit") d);
  priority = integer_of (setting (codes "priority") d);
}

-- what parts have that were read of a table
pub record ReadsPart (p : Parts) (files : List File) (t : Data) : Type 0 where
  pub class : p.class ≡ class_in t
  pub id : p.id.items ≡ value_text (get (codes "id") t)
  pub max_cto : p.max_cto ≡ integer_of (get (codes "max_cto") t)
  pub max_dto : p.max_dto ≡ integer_of (get (codes "max_dto") t)
  pub checksum : kind_numbered (number p.checksum) ≡ checksum_in t
  pub known : is_within 1 6 p.checksum ≡ true
  pub order : p.order ≡ order_in t
  pub extras : extras_of p.extras ≡ extras_in t
  pub clock : p.clock ≡ clock_in (clock_key t)
  pub segments : map segment_read p.segments.items ≡ map segment_in_parts (segments_of files t)
  pub signals_address : p.signals_address ≡ address_of (signals_table t)
  pub signals_length : p.signals_length ≡ length_of (signals_table t)
  pub events : map event_read p.events.items ≡ map event_written (event_tables t)
