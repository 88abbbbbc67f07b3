-- The keys of a layout file that nothing reads, each with its place. `crates/xcp_config/specs/TableChecks.antt` reads those of the document, of its clock,
-- of its segments, of its signals and of its event channels; a description reads those of its parameters and measurements.
use Rattle.std.specs.Prelude.{ℕ, Bool, List, [], ◌∷◌, ◌++◌, codes, unwrap_or, if◌then◌else◌}
use Rattle.std.specs.List.{list_any, flat_map, enumerate_from}
use Rattle.std.specs.Str.{bytes_eq}
use Rattle.toml.specs.Data.{Data, table, Members, no_members, member, as_table, get}
use Rattle.xcp_config.specs.TomlValues.{members_of}
use Rattle.xcp_describe.specs.Places.{Place, no_table, table_named, member_of, PlacedKey}

-- the keys that are read outside of the tables
abbrev pub top_keys : List (List ℕ)
top_keys = codes "id" ∷ codes "max_cto" ∷ codes "max_dto" ∷ codes "byte_order" ∷ codes "checksum" ∷ codes "a2l" ∷ codes "upload_a2l" ∷ codes "overload" ∷ codes "clock" ∷ codes "class" ∷ codes "segment" ∷ codes "signals" ∷ codes "event" ∷ codes "parameter" ∷ codes "measurement" ∷ []

-- those of the clock, of a segment, of the signals and of an event channel
abbrev pub clock_keys : List (List ℕ)
clock_keys = codes "size" ∷ codes "unit" ∷ codes "ticks" ∷ []

abbrev pub segment_keys : List (List ℕ)
segment_keys = codes "address" ∷ codes "data" ∷ codes "data_file" ∷ codes "pages" ∷ []

abbrev pub signals_keys : List (List ℕ)
signals_keys = codes "address" ∷ codes "length" ∷ []

abbrev pub event_keys : List (List ℕ)
event_keys = codes "name" ∷ codes "cycle" ∷ codes "unit" ∷ codes "priority" ∷ []

-- those of a parameter, and of a measurement, which has an event channel and no axes
abbrev pub parameter_keys : List (List ℕ)
parameter_keys = codes "name" ∷ codes "address" ∷ codes "type" ∷ codes "count" ∷ codes "columns" ∷ codes "rows" ∷ codes "x_axis" ∷ codes "y_axis" ∷ codes "bits" ∷ codes "values" ∷ codes "group" ∷ codes "unit" ∷ codes "about" ∷ codes "factor" ∷ codes "offset" ∷ codes "low" ∷ codes "high" ∷ []

abbrev pub measurement_keys : List (List ℕ)
measurement_keys = codes "name" ∷ codes "address" ∷ codes "type" ∷ codes "count" ∷ codes "columns" ∷ codes "rows" ∷ codes "event" ∷ codes "bits" ∷ codes "values" ∷ codes "group" ∷ codes "unit" ∷ codes "about" ∷ codes "factor" ∷ codes "offset" ∷ codes "low" ∷ codes "high" ∷ []

-- the key is one of these
abbrev pub is_key_among : List ℕ → List (List ℕ) → Bool
is_key_among key known = list_any (bytes_eq key) known

-- the keys of a table's members that aren't
abbrev pub unread_members : Place → List (List ℕ) → Members → List PlacedKey
unread_members place known no_members = []
unread_members place known (member key d rest) =
    if is_key_among key known then unread_members place known rest
    else record { place = place; key = key } ∷ unread_members place known rest

-- the same of a value, which has none where it is no table
abbrev pub unread_of : Place → List (List ℕ) → Data → List PlacedKey
unread_of place known d = unread_members place known (unwrap_or (as_table d) no_members)

-- of a member of the array at a name
abbrev pub unread_member : List ℕ → List (List ℕ) → ℕ × Data → List PlacedKey
unread_member name known (i, d) = unread_of (member_of name i) known d

-- of each table of the array at a name
abbrev pub unread_each : List ℕ → List (List ℕ) → Data → List PlacedKey
unread_each name known t = flat_map (unread_member name known) (enumerate_from 0 (members_of (get name t)))

-- of the table of a name, if it is there
abbrev pub unread_named : List ℕ → List (List ℕ) → Data → List PlacedKey
unread_named name known t = unread_of (table_named name) known (unwrap_or (get name t) (table no_members))

-- all of a document
abbrev pub unread_keys : Data → List PlacedKey
unread_keys t =
    unread_of no_table top_keys t
    ++ unread_named (codes "clock") clock_keys t
    ++ unread_each (codes "segment") segment_keys t
    ++ unread_named (codes "signals") signals_keys t
    ++ unread_each (codes "event") event_keys t
    ++ unread_each (codes "parameter") parameter_keys t
    ++ unread_each (codes "measurement") measurement_keys t
