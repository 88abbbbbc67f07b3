-- The layout of a table: the checks of a configuration's table, in the order in which they are made. A key that isn't named here
-- is ignored.
use Rattle.std.specs.Prelude.{ℕ, ℤ, ◌+◌, List, [], ◌∷◌, ◌++◌, length, map, sum_by, take, codes, Option, Some, None, is_some, unwrap_or, not, ◌==◌}
use Rattle.std.specs.Option.{option_and_then}
use Rattle.std.specs.List.{flat_map, enumerate_from}
use Rattle.toml.specs.Data.{Data, get, as_integer, as_str, as_bool, as_table}
use Rattle.xcp_memory.specs.declared.Class.{Class}
use Rattle.xcp_memory.specs.declared.Key.{Key}
use Rattle.xcp_memory.specs.declared.Key.TheVariants as key
use Rattle.xcp_memory.specs.declared.LayoutFault.TheVariants as limit
use Rattle.xcp_memory.specs.LayoutParts.{number, areas}
use Rattle.xcp_memory.specs.Limits.{Limit, id_limit, max_cto_limit, max_dto_limit, text_limit, number_limit, segment_counts, address_limit, data_limit, total_limit, end_limit, pages_limit, signals_address_limit, signals_length_limit, event_counts, name_limit, cycle_limit, unit_limit, priority_limit, apart_limits}
use Rattle.xcp_config.specs.declared.config_error.ConfigError.{ConfigError}
use Rattle.xcp_config.specs.declared.config_error.ConfigError.TheVariants.{Missing, Kind, Range}
use Rattle.xcp_config.specs.FaultNumbers.{error_of}
use Rattle.xcp_packet.specs.Rows.{first_holding, must}
use Rattle.xcp_config.specs.Check.{Check}
use Rattle.xcp_config.specs.TomlValues.{is_file_name, value_text, integer_of, bytes_in_hex, members_of, is_array_of_tables, named, byte_orders, checksums, classes, overloads}
use Rattle.xcp_config.specs.TableLayout.{File, Filed, file_key, layout_in, byte_order_of, checksum_in_table, class_of, class_in, clock_key, clock_setting, clock_part, segments_of, signals_table, event_tables, address_of, size_of, pages_of, length_of, setting}

-- the check that a limit of a layout makes
abbrev pub limit_check : Limit → Check
limit_check l = (l.0, error_of l.1)

-- a text that keeps a limit
unfoldable pub text_checks : Key → (List ℕ → Limit) → Option Data → List Check
text_checks k limit v =
    must (is_some v) (Missing k)
    ∷ must (is_some (option_and_then as_str v)) (Kind k)
    ∷ limit_check (limit (value_text v))
    ∷ []

-- a text that is one of some names
unfoldable pub name_checks : {A : Type 0} → Key → List (List ℕ × A) → Option Data → List Check
name_checks k names v =
    must (is_some v) (Missing k)
    ∷ must (is_some (option_and_then as_str v)) (Kind k)
    ∷ must (is_some (named names (value_text v))) (Range k)
    ∷ []

-- an integer that keeps a limit
unfoldable pub integer_checks : Key → (ℤ → Limit) → Option Data → List Check
integer_checks k limit v =
    must (is_some v) (Missing k)
    ∷ must (is_some (option_and_then as_integer v)) (Kind k)
    ∷ limit_check (limit (integer_of v))
    ∷ []

-- a boolean
unfoldable pub boolean_checks : Key → Option Data → List Check
boolean_checks k v =
    must (is_some v) (Missing k)
    ∷ must (is_some (option_and_then as_bool v)) (Kind k)
    ∷ []

-- the checks of a value that needn't be there
abbrev pub if_there : (Option Data → List Check) → Option Data → List Check
if_there checks None = []
if_there checks (Some d) = checks (Some d)

-- a text of hex digits that writes as many bytes as keep a limit
unfoldable pub data_checks : Key → (ℕ → Limit) → Option Data → List Check
data_checks k limit v =
    must (is_some v) (Missing k)
    ∷ must (is_some (option_and_then as_str v)) (Kind k)
    ∷ limit_check (limit (length (bytes_in_hex v)))
    ∷ []

-- an array of tables, as many as keep their limits
unfoldable pub array_checks : Key → (ℕ → List Limit) → Option Data → List Check
array_checks k limits v =
    must (is_some v) (Missing k)
    ∷ must (is_array_of_tables v) (Kind k)
    ∷ map limit_check (limits (length (members_of v)))

-- a table is there
unfoldable pub table_checks : Key → Option Data → List Check
table_checks k v =
    must (is_some v) (Missing k)
    ∷ must (is_some (option_and_then as_table v)) (Kind k)
    ∷ []

-- What only some slaves have: the name of the A2L file, a text that is absent or 1 to 64 printable characters; whether tools get
-- the file from the slave, a boolean or absent; how a lost sample is told, absent or one of the words for it.
unfoldable pub extras_checks : Data → List Check
extras_checks t =
    if_there (text_checks key.A2l (text_limit 64 key.A2l)) (get (codes "a2l") t)
    ++ if_there (boolean_checks key.UploadA2l) (get (codes "upload_a2l") t)
    ++ if_there (name_checks key.Overload overloads) (get (codes "overload") t)

-- a time stamp doesn't have three bytes
abbrev pub size_check : ℤ → List Check
size_check size = limit_check (must (not (number size == 3)) (limit.Range key.ClockSize)) ∷ []

-- the keys of the table `clock`
unfoldable pub clock_key_checks : Data → List Check
clock_key_checks c =
    integer_checks key.ClockSize (number_limit 1 4 key.ClockSize) (clock_setting (codes "size") 4 c)
    ++ size_check (clock_part c).size
    ++ integer_checks key.ClockUnit (number_limit 0 12 key.ClockUnit) (clock_setting (codes "unit") 3 c)
    ++ integer_checks key.ClockTicks (number_limit 1 65535 key.ClockTicks) (clock_setting (codes "ticks") 1 c)

-- a table needn't be there
abbrev pub checks_of_clock : Option Data → List Check
checks_of_clock None = []
checks_of_clock (Some c) = table_checks key.Clock (Some c) ++ clock_key_checks c

unfoldable pub clock_checks : Data → List Check
clock_checks t = checks_of_clock (clock_key t)

-- the values of the slave itself
unfoldable pub own_checks : Data → List Check
own_checks t =
    text_checks key.Id id_limit (get (codes "id") t)
    ++ integer_checks key.MaxCto max_cto_limit (get (codes "max_cto") t)
    ++ integer_checks key.MaxDto max_dto_limit (get (codes "max_dto") t)
    ++ name_checks key.ByteOrder byte_orders (byte_order_of t)
    ++ name_checks key.Checksum checksums (checksum_in_table t)
    ++ extras_checks t
    ++ clock_checks t
    ++ name_checks key.Class classes (class_of t)

-- segment i names a file: it doesn't write its bytes, too, and the name is a text in its range
unfoldable pub name_of_file_checks : ℕ → Data → Data → List Check
name_of_file_checks i name s =
    must (not (is_some (get (codes "data") s))) (Kind (key.Data i))
    ∷ must (is_some (as_str name)) (Kind (key.Data i))
    ∷ must (is_file_name (value_text (Some name))) (Range (key.Data i))
    ∷ []

-- the file is there, and has as many bytes as keep the limit
unfoldable pub content_checks : ℕ → File → List Check
content_checks i file =
    must (is_some file) (Missing (key.Data i))
    ∷ limit_check (data_limit i (length (unwrap_or file [])))
    ∷ []

-- the bytes of segment i: those of the file that its table names, or else those that its table writes
abbrev pub checks_of_bytes : ℕ → Option Data → Filed → List Check
checks_of_bytes i None (file, s) = data_checks (key.Data i) (data_limit i) (get (codes "data") s)
checks_of_bytes i (Some name) (file, s) = name_of_file_checks i name s ++ content_checks i file

unfoldable pub bytes_checks : ℕ → Filed → List Check
bytes_checks i (file, s) = checks_of_bytes i (file_key s) (file, s)

-- how many bytes there are in all with those of segment i, by the class, and where the last one of these lies
abbrev pub size_checks : Class → ℕ → ℕ → ℤ → ℕ → List Check
size_checks class i total address size =
    limit_check (total_limit class i total)
    ∷ limit_check (end_limit (key.Address i) address size)
    ∷ []

-- segment i, with which there are so many bytes in all
unfoldable pub segment_checks : Class → ℕ → ℕ → Filed → List Check
segment_checks class i total (file, s) =
    integer_checks (key.Address i) (address_limit i) (get (codes "address") s)
    ++ bytes_checks i (file, s)
    ++ size_checks class i total (address_of s) (size_of (file, s))
    ++ integer_checks (key.Pages i) (pages_limit i) (pages_of s)

-- segment i of these, by the bytes up to its own
abbrev pub checks_in : Class → List Filed → ℕ × Filed → List Check
checks_in class ss (i, s) = segment_checks class i (sum_by size_of (take (i + 1) ss)) s

-- the segments, which keep the limits of the class
unfoldable pub segments_checks : List File → Data → List Check
segments_checks files t =
    array_checks key.Segment (segment_counts (class_in t)) (get (codes "segment") t)
    ++ flat_map (checks_in (class_in t) (segments_of files t)) (enumerate_from 0 (segments_of files t))

-- where the signals end
abbrev pub end_checks : ℤ → ℤ → List Check
end_checks address n = limit_check (end_limit key.SignalsAddress address (number n)) ∷ []

-- the keys of the table `signals`, by the class of the layout
unfoldable pub place_checks : Class → Data → List Check
place_checks class s =
    integer_checks key.SignalsAddress signals_address_limit (get (codes "address") s)
    ++ integer_checks key.SignalsLength (signals_length_limit class) (get (codes "length") s)
    ++ end_checks (address_of s) (length_of s)

unfoldable pub signals_checks : Data → List Check
signals_checks t =
    table_checks key.Signals (get (codes "signals") t)
    ++ place_checks (class_in t) (signals_table t)

-- event channel i
unfoldable pub event_checks : ℕ × Data → List Check
event_checks (i, e) =
    text_checks (key.Name i) (name_limit i) (get (codes "name") e)
    ++ integer_checks (key.Cycle i) (cycle_limit i) (setting (codes "cycle") e)
    ++ integer_checks (key.Unit i) (unit_limit i) (setting (codes "unit") e)
    ++ integer_checks (key.Priority i) (priority_limit i) (setting (codes "priority") e)

unfoldable pub events_checks : Data → List Check
events_checks t =
    array_checks key.Event (event_counts (class_in t)) (get (codes "event") t)
    ++ flat_map event_checks (enumerate_from 0 (event_tables t))

-- no two areas share an address: each with those behind it, the segments first and then the signals
unfoldable pub limit_checks : List File → Data → List Check
limit_checks files t = map limit_check (apart_limits (areas (layout_in files t)))

-- all checks of a table, with these files, in their order
unfoldable pub checks : List File → Data → List Check
checks files t = own_checks t ++ segments_checks files t ++ signals_checks t ++ events_checks t ++ limit_checks files t

-- the fault of the first check of a table that fails
abbrev pub first_table_fault : List File → Data → Option ConfigError
first_table_fault files t = first_holding (checks files t)
