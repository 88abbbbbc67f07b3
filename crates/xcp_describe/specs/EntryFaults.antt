-- The faults of the parameters and measurements of a layout file, in the order in which they are looked for: first the parameters and
-- then the measurements, each in the order of the file; and of an entry key by key. The axes of the parameters are looked at once all
-- parameters are read, since a parameter behind may be one.
use Rattle.std.specs.Prelude.{◌≡◌, ℕ, Bool, List, [], ◌∷◌, ◌++◌, length, map, take, codes, Option, Some, is_some, unwrap_or, option_and_then}
use Rattle.std.specs.List.{flat_map, enumerate_from}
use Rattle.std.specs.Float.{Float, float_zero}
use lib.Ieee.{eq}
use Rattle.toml.specs.Data.{Data, Members, table, as_integer, as_str, get}
use Rattle.toml.specs.Parse.{parse_document}
use Rattle.xcp_packet.specs.Rows.{first_holding, must}
use Rattle.xcp_memory.specs.Layout.{LayoutValue}
use Rattle.xcp_memory.specs.Limits.{is_within}
use Rattle.xcp_memory.specs.ComputedAccess.{lies_inside, segment_of}
use Rattle.xcp_config.specs.ConfigText.{HasLayoutWith}
use Rattle.xcp_config.specs.TableLayout.{File}
use Rattle.xcp_config.specs.TomlValues.{members_of}
use Rattle.xcp_describe.specs.declared.refusal.Why.{Why}
use Rattle.xcp_describe.specs.declared.refusal.Why.TheVariants as why
use Rattle.xcp_describe.specs.declared.refusal.DescribeError.{DescribeError}
use Rattle.xcp_describe.specs.declared.refusal.DescribeError.TheVariants.{Parameter, Measurement}
use Rattle.xcp_describe.specs.EntryValues.{ValueType, are_limits, bounds_of, value_bytes, factor_in, factor_of, first_of, high_in, is_array_or_none, is_event, is_group, is_mask, is_name, is_count, is_shape, is_label_or_none, low_in, name_of, offset_in, some_and, type_in, type_of}
use Rattle.xcp_describe.specs.NumberNames.{are_names}
use Rattle.xcp_describe.specs.Axes.{Form, form_of, has_axes}
use Rattle.xcp_describe.specs.UnreadKeys.{is_key_among}

-- the faults of the count, and of columns and rows
abbrev pub shape_faults : Data → List (Bool × Why)
shape_faults d =
    must (is_count d) why.Count
    ∷ must (is_shape d) why.Shape
    ∷ []

-- those of name, address and type, and of the shape behind them
abbrev pub key_faults : Data → List (Bool × Why)
key_faults d =
    must (some_and is_name (option_and_then as_str (get (codes "name") d))) why.Name
    ∷ must (some_and (is_within 0 0xFFFF_FFFF) (option_and_then as_integer (get (codes "address") d))) why.Address
    ∷ must (is_some (type_in d)) why.Kind
    ∷ shape_faults d

-- those of the factor and the offset
abbrev pub scale_faults : Data → List (Bool × Why)
scale_faults d =
    must (is_some (factor_in d)) why.Number
    ∷ must (is_some (offset_in d)) why.Number
    ∷ []

-- those of the limits, which are looked at once all four numbers are read, the factor first
abbrev pub limit_faults : Float × Float → Float → Data → List (Bool × Why)
limit_faults bounds factor d =
    must (is_some (low_in bounds d)) why.Number
    ∷ must (is_some (high_in bounds d)) why.Number
    ∷ (eq factor float_zero, why.Factor)
    ∷ must (are_limits bounds (unwrap_or (low_in bounds d) bounds.0) (unwrap_or (high_in bounds d) bounds.1)) why.Limits
    ∷ []

-- those of the texts
abbrev pub text_faults : Data → List (Bool × Why)
text_faults d =
    must (is_label_or_none (get (codes "unit") d)) why.Unit
    ∷ must (is_label_or_none (get (codes "about") d)) why.About
    ∷ []

-- those of an entry by itself
unfoldable pub entry_faults : Data → List (Bool × Why)
entry_faults d = key_faults d ++ scale_faults d ++ limit_faults (bounds_of d) (factor_of d) d ++ text_faults d

-- those of what its values mean to tools, behind all others: of a type
abbrev pub meaning_faults : ValueType → Data → List (Bool × Why)
meaning_faults t d =
    must (is_mask t d) why.Bits
    ∷ must (are_names t d) why.Values
    ∷ must (is_group d) why.Group
    ∷ []

-- those of a parameter behind entries of these names: all its bytes lie in one segment
abbrev pub parameter_faults : LayoutValue → List (List ℕ) → Data → List (Bool × Why)
parameter_faults l earlier d =
    entry_faults d
    ++ (is_key_among (name_of d) earlier, why.Taken)
    ∷ must (is_some (segment_of l (first_of d) (value_bytes d))) why.NoSegment
    ∷ meaning_faults (type_of d) d

-- those of a measurement: all its bytes lie in one segment or in the signals, and its event channel is one of the layout
abbrev pub measurement_faults : LayoutValue → List (List ℕ) → Data → List (Bool × Why)
measurement_faults l earlier d =
    entry_faults d
    ++ (is_key_among (name_of d) earlier, why.Taken)
    ∷ must (lies_inside l (first_of d) (value_bytes d)) why.NoMemory
    ∷ must (is_event (length l.events) d) why.Event
    ∷ meaning_faults (type_of d) d

-- a fault of an entry, with the entry's table and number
abbrev pub placed_at : (Why → DescribeError) → Bool × Why → Bool × DescribeError
placed_at place f = (f.0, place f.1)

-- the faults of parameter i and of measurement i of these, behind these names
abbrev pub parameter_checks : LayoutValue → List Data → ℕ × Data → List (Bool × DescribeError)
parameter_checks l ds (i, d) = map (placed_at (Parameter i)) (parameter_faults l (map name_of (take i ds)) d)

abbrev pub measurement_checks : LayoutValue → List (List ℕ) → List Data → ℕ × Data → List (Bool × DescribeError)
measurement_checks l names ds (i, d) = map (placed_at (Measurement i)) (measurement_faults l (names ++ map name_of (take i ds)) d)

-- the fault of the axes of parameter i of these
abbrev pub axis_faults : List Form → Form → List (Bool × Why)
axis_faults ps p = must (has_axes ps p) why.Axis ∷ []

abbrev pub axis_checks : List Form → ℕ × Form → List (Bool × DescribeError)
axis_checks ps (i, p) = map (placed_at (Parameter i)) (axis_faults ps p)

abbrev pub axes_checks : List Form → List (Bool × DescribeError)
axes_checks ps = flat_map (axis_checks ps) (enumerate_from 0 ps)

-- the tables of parameters and of measurements
abbrev pub parameters_in : Data → List Data
parameters_in t = members_of (get (codes "parameter") t)

abbrev pub measurements_in : Data → List Data
measurements_in t = members_of (get (codes "measurement") t)

-- those of the parameters: of each by itself, and behind all of these, of the axes of each
unfoldable pub parameters_checks : LayoutValue → Data → List (Bool × DescribeError)
parameters_checks l t =
    must (is_array_or_none (get (codes "parameter") t)) (Parameter 0 why.Table)
    ∷ flat_map (parameter_checks l (parameters_in t)) (enumerate_from 0 (parameters_in t))
    ++ axes_checks (map form_of (parameters_in t))

unfoldable pub measurements_checks : LayoutValue → Data → List (Bool × DescribeError)
measurements_checks l t =
    must (is_array_or_none (get (codes "measurement") t)) (Measurement 0 why.Table)
    ∷ flat_map (measurement_checks l (map name_of (parameters_in t)) (measurements_in t)) (enumerate_from 0 (measurements_in t))

-- all faults of all entries in a layout, and the first one
unfoldable pub entries_checks : LayoutValue → Data → List (Bool × DescribeError)
entries_checks l t = parameters_checks l t ++ measurements_checks l t

abbrev pub first_refusal : LayoutValue → Data → Option DescribeError
first_refusal l t = first_holding (entries_checks l t)

-- The text is a document, and the first fault of its entries in a layout is this one, or they have none.
pub record IsFirstRefusalIn (l : LayoutValue) (text : List ℕ) (r : Option DescribeError) : Type 0 where
  pub members : Members
  pub document : parse_document text ≡ Some members
  pub first : first_refusal l (table members) ≡ r

-- the same in the layout that the text describes, where its segments may name these files
pub record IsFirstRefusal (files : List File) (text : List ℕ) (r : Option DescribeError) : Type 0 where
  pub layout : LayoutValue
  pub has : HasLayoutWith files text layout
  pub is : IsFirstRefusalIn layout text r
