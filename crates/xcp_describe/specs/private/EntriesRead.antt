-- What is read of an entry.
use Rattle.std.specs.Prelude.{◌≡◌, ℕ, Bool, List, codes, is_some, map, option_map, unwrap_or}
use Rattle.toml.specs.Data.{Data, get}
use Rattle.xcp_config.specs.TomlValues.{value_text}
use Rattle.xcp_describe.specs.declared.kind.Kind.{Kind}
use Rattle.xcp_describe.specs.declared.kind.Kind.TheVariants as kind
use Rattle.xcp_describe.specs.declared.entry.Entry.{Entry}
use Rattle.xcp_describe.specs.EntryValues.{ValueType, ubyte, sbyte, uword, sword, ulong, slong, float32, float64, name_of, first_of, type_of, count_of, type_size}
use Rattle.xcp_describe.specs.Axes.{Form, axis_in}

-- the type of a kind of values
abbrev pub type_named : Kind → ValueType
type_named kind.UByte = ubyte
type_named kind.SByte = sbyte
type_named kind.UWord = uword
type_named kind.SWord = sword
type_named kind.ULong = ulong
type_named kind.SLong = slong
type_named kind.Float32 = float32
type_named kind.Float64 = float64

-- an entry has the name, the address, the type, the count, the columns and rows, the axes and the texts of its table
pub record IsEntryRead (is_parameter : Bool) (d : Data) (e : Entry) : Type 0 where
  pub name : e.name.now ≡ name_of d
  pub address : e.address ≡ first_of d
  pub kind : type_named e.kind ≡ type_of d
  pub count : unwrap_or e.shape.count 1 ≡ count_of d
  pub columns : e.shape.columns ≡ type_size (codes "columns") d
  pub rows : e.shape.rows ≡ type_size (codes "rows") d
  pub x_axis : option_map (λ s. s.now) e.x_axis ≡ axis_in is_parameter (codes "x_axis") d
  pub y_axis : option_map (λ s. s.now) e.y_axis ≡ axis_in is_parameter (codes "y_axis") d
  pub unit : e.unit.now ≡ value_text (get (codes "unit") d)
  pub about : e.about.now ≡ value_text (get (codes "about") d)

abbrev pub names_of : List Entry → List (List ℕ)
names_of es = map (λ e. e.name.now) es

-- parameters as their axes are looked at
abbrev pub form_read : Entry → Form
form_read e = record {
  name = e.name.now;
  count = unwrap_or e.shape.count 1;
  columns = e.shape.columns;
  rows = e.shape.rows;
  masked = is_some e.meaning.bits;
  x_axis = option_map (λ s. s.now) e.x_axis;
  y_axis = option_map (λ s. s.now) e.y_axis;
}

abbrev pub forms_of : List Entry → List Form
forms_of es = map form_read es
