-- The axes of a parameter: other parameters, which say of each place in a row, and of each row, what it stands for.
-- (ASAM MCD-2 MC, ASAP2 1.6: AXIS_DESCR, COM_AXIS, AXIS_PTS.)
use Rattle.std.specs.Prelude.{ℕ, Bool, true, false, not, ◌&&◌, ◌==◌, List, codes, Option, Some, None, is_some, option_map, if◌then◌else◌}
use Rattle.std.specs.List.{list_any}
use Rattle.std.specs.Str.{bytes_eq}
use Rattle.toml.specs.Data.{Data, get}
use Rattle.xcp_config.specs.TomlValues.{value_text}
use Rattle.xcp_describe.specs.EntryValues.{count_of, mask_in, name_of, type_size}

-- what stands at a key that is looked at in a parameter alone: no measurement has axes
abbrev pub given : Bool → List ℕ → Data → Option Data
given is_parameter key d = if is_parameter then get key d else None

-- the name of an axis, if one is given: what is no text is an empty one, which is no name
abbrev pub axis_in : Bool → List ℕ → Data → Option (List ℕ)
axis_in is_parameter key d = option_map (λ v. value_text (Some v)) (given is_parameter key d)

-- A parameter as its axes are looked at: its name, how many values it has, in what rows, whether some of their bits alone count, and
-- the names of its axes.
pub record Form : Type 0 where
  pub name : List ℕ
  pub count : ℕ
  pub columns : Option ℕ
  pub rows : Option ℕ
  pub masked : Bool
  pub x_axis : Option (List ℕ)
  pub y_axis : Option (List ℕ)

abbrev pub form_of : Data → Form
form_of d = record {
  name = name_of d;
  count = count_of d;
  columns = type_size (codes "columns") d;
  rows = type_size (codes "rows") d;
  masked = is_some (mask_in d);
  x_axis = axis_in true (codes "x_axis") d;
  y_axis = axis_in true (codes "y_axis") d;
}

-- a parameter of this name that is an axis of n values: it has so many, in no rows, all bits of them count, and it has no axis of its own
abbrev pub is_axis : ℕ → List ℕ → Form → Bool
is_axis n name p = bytes_eq name p.name && p.count == n && not (is_some p.columns) && not p.masked && not (is_some p.x_axis) && not (is_some p.y_axis)

-- one of these is the axis that is named, if one is; where no number of its values is given, none may be named
abbrev pub has_axis : List Form → Option ℕ → Option (List ℕ) → Bool
has_axis ps n None = true
has_axis ps None (Some name) = false
has_axis ps (Some n) (Some name) = list_any (is_axis n name) ps

-- The axes of a parameter: along a row, and along the rows. Where there are rows and an x_axis there is a y_axis, and else there is none.
abbrev pub has_axes : List Form → Form → Bool
has_axes ps p =
    has_axis ps p.columns p.x_axis
    && has_axis ps p.rows p.y_axis
    && (if is_some p.x_axis && is_some p.rows then is_some p.y_axis else not (is_some p.y_axis))
