-- What a layout file says of a parameter or a measurement, key by key (docs/LAYOUT.md, "Names for tools").
use Rattle.std.specs.Prelude.{ℕ, ◌*◌, ℤ, pos, negsuc, Bool, true, false, not, ◌&&◌, List, [], ◌∷◌, length, codes, Option, Some, None, if◌then◌else◌, is_some, unwrap_or, option_map, option_and_then, slice_get, nat_le, nat_lt, ◌==◌, ◌||◌, ◌^◌}
use Rattle.std.specs.List.{list_all}
use Rattle.std.specs.Char.{is_ascii_alphanumeric, is_ascii_digit}
use Rattle.std.specs.Float.{Float, fin, binary64, float_is_finite, float_zero, float_one}
use lib.Ieee.{add, le, mul, of_int}
use Rattle.toml.specs.Data.{Data, as_array, as_float, as_integer, as_str, get}
use Rattle.xcp_memory.specs.LayoutParts.{number}
use Rattle.xcp_memory.specs.Limits.{is_within}
use Rattle.xcp_config.specs.TableLayout.{address_of}
use Rattle.xcp_config.specs.TomlValues.{integer_of, named, value_text}
use Rattle.xcp_describe.specs.EntryTexts.{is_text_of_entry}

-- a value that is there and passes a test
abbrev pub some_and : {A : Type 0} → (A → Bool) → Option A → Bool
some_and test None = false
some_and test (Some x) = test x

-- one that passes it, if it is there
abbrev pub none_or : {A : Type 0} → (A → Bool) → Option A → Bool
none_or test None = true
none_or test (Some x) = test x

-- an array, if it is there
abbrev pub is_array_or_none : Option Data → Bool
is_array_or_none v = none_or (λ x. is_some (as_array x)) v

-- an identifier: letters, digits and underscores, and no digit first; at most 117 of them, since with `_conversion` behind it, it is an
-- identifier too, which has at most 128
-- (ASAM MCD-2 MC: identifiers.)
abbrev pub is_name_character : ℕ → Bool
is_name_character c = is_ascii_alphanumeric c || c == 95

abbrev pub is_name : List ℕ → Bool
is_name s = some_and (λ c. not (is_ascii_digit c)) (slice_get s 0) && nat_le (length s) 117 && list_all is_name_character s

abbrev pub name_of : Data → List ℕ
name_of d = value_text (get (codes "name") d)

-- the name of the group that an entry is in, if it is given: an identifier
abbrev pub is_group : Data → Bool
is_group d = none_or (λ v. some_and is_name (as_str v)) (get (codes "group") d)

abbrev pub group_in : Data → Option (List ℕ)
group_in d = option_map (λ v. value_text (Some v)) (get (codes "group") d)

-- a unit, or what an entry is about, if it is there
abbrev pub is_label_or_none : Option Data → Bool
is_label_or_none v = none_or (λ x. some_and is_text_of_entry (as_str x)) v

-- The type of a value: how many bytes it has, the mask of all its bits, 0 of a float, and the least and the greatest number. `fin s m e` is m times two to the e, and negative
-- where s is true.
-- (ASAM MCD-2 MC: data types.)
pub record ValueType : Type 0 where
  pub size : ℕ
  pub mask : ℕ
  pub least : Float
  pub greatest : Float

abbrev pub ubyte : ValueType
ubyte = record { size = 1; mask = 0xFF; least = float_zero; greatest = fin false 255 (pos 0) }

abbrev pub sbyte : ValueType
sbyte = record { size = 1; mask = 0xFF; least = fin true 1 (pos 7); greatest = fin false 127 (pos 0) }

abbrev pub uword : ValueType
uword = record { size = 2; mask = 0xFFFF; least = float_zero; greatest = fin false 65535 (pos 0) }

abbrev pub sword : ValueType
sword = record { size = 2; mask = 0xFFFF; least = fin true 1 (pos 15); greatest = fin false 32767 (pos 0) }

abbrev pub ulong : ValueType
ulong = record { size = 4; mask = 0xFFFF_FFFF; least = float_zero; greatest = fin false 4294967295 (pos 0) }

abbrev pub slong : ValueType
slong = record { size = 4; mask = 0xFFFF_FFFF; least = fin true 1 (pos 31); greatest = fin false 2147483647 (pos 0) }

-- 24 and 53 binary digits, all of them 1, and the greatest exponent
abbrev pub float32 : ValueType
float32 = record { size = 4; mask = 0; least = fin true 0xFF_FFFF (pos 104); greatest = fin false 0xFF_FFFF (pos 104) }

abbrev pub float64 : ValueType
float64 = record { size = 8; mask = 0; least = fin true 0x1F_FFFF_FFFF_FFFF (pos 971); greatest = fin false 0x1F_FFFF_FFFF_FFFF (pos 971) }

-- the types by their names
abbrev pub value_types : List (List ℕ × ValueType)
value_types =
    (codes "UBYTE", ubyte)
    ∷ (codes "SBYTE", sbyte)
    ∷ (codes "UWORD", uword)
    ∷ (codes "SWORD", sword)
    ∷ (codes "ULONG", ulong)
    ∷ (codes "SLONG", slong)
    ∷ (codes "FLOAT32_IEEE", float32)
    ∷ (codes "FLOAT64_IEEE", float64)
    ∷ []

abbrev pub type_in : Data → Option ValueType
type_in d = option_and_then (named value_types) (option_and_then as_str (get (codes "type") d))

abbrev pub type_of : Data → ValueType
type_of d = unwrap_or (type_in d) ubyte

-- a number of values, 1 to 65535 as an A2L file has them, if it is given
abbrev pub is_size : List ℕ → Data → Bool
is_size key d = none_or (λ v. some_and (is_within 1 0xFFFF) (as_integer v)) (get key d)

abbrev pub type_size : List ℕ → Data → Option ℕ
type_size key d = option_map (λ v. number (integer_of (Some v))) (get key d)

-- how many values stand one behind the other
abbrev pub is_count : Data → Bool
is_count d = is_size (codes "count") d

-- The values may stand in rows instead: so many in a row, and so many rows. There are no rows without columns, no count beside them,
-- and at most as many values as a layout may have bytes.
abbrev pub are_rows : Option ℕ → Option ℕ → Option ℕ → Bool
are_rows count None rows = not (is_some rows)
are_rows count (Some n) rows = not (is_some count) && nat_le (n * unwrap_or rows 1) 1048576

abbrev pub is_shape : Data → Bool
is_shape d =
    is_size (codes "columns") d
    && is_size (codes "rows") d
    && are_rows (type_size (codes "count") d) (type_size (codes "columns") d) (type_size (codes "rows") d)

-- how many values there are in all: each of the three numbers is 1 where it isn't given
abbrev pub values_of : Option ℕ → Option ℕ → Option ℕ → ℕ
values_of count columns rows = unwrap_or count 1 * (unwrap_or columns 1 * unwrap_or rows 1)

abbrev pub count_of : Data → ℕ
count_of d = values_of (type_size (codes "count") d) (type_size (codes "columns") d) (type_size (codes "rows") d)

-- the first address, and how many bytes all values have
abbrev pub first_of : Data → ℕ
first_of d = number (address_of d)

abbrev pub value_bytes : Data → ℕ
value_bytes d = (type_of d).size * count_of d

-- the number of an event channel, of so many, if it is given
abbrev pub is_below : ℕ → ℤ → Bool
is_below n (pos k) = nat_lt k n
is_below n (negsuc k) = false

abbrev pub is_event : ℕ → Data → Bool
is_event channels d = none_or (λ v. some_and (is_below channels) (as_integer v)) (get (codes "event") d)

abbrev pub event_number : Data → Option ℕ
event_number d = option_map (λ v. number (integer_of (Some v))) (get (codes "event") d)

-- a mask of the bits of a value that count, if it is given: one of them at least, and none that a type of integers hasn't
abbrev pub is_mask : ValueType → Data → Bool
is_mask t d = none_or (λ v. some_and (is_within 1 t.mask) (as_integer v)) (get (codes "bits") d)

abbrev pub mask_in : Data → Option ℕ
mask_in d = option_map (λ v. number (integer_of (Some v))) (get (codes "bits") d)

-- an integer of 32 bits, signed or not
abbrev pub is_of_32_bits : ℤ → Bool
is_of_32_bits (pos n) = nat_lt n (2 ^ 32)
is_of_32_bits (negsuc n) = nat_lt n (2 ^ 31)

-- the number of 64 bits that an integer is, or that a float is, if it is finite
abbrev pub finite : Float → Option Float
finite x = if float_is_finite x then Some x else None

abbrev pub number_by : Option Float → Option ℤ → Option Float
number_by (Some x) z = finite x
number_by None (Some z) = if is_of_32_bits z then finite (of_int binary64 z) else None
number_by None None = None

-- what stands at a key as a number, another number where nothing does, and none where it is something else
abbrev pub number_or : Float → Option Data → Option Float
number_or other None = Some other
number_or other (Some v) = number_by (as_float v) (as_integer v)

abbrev pub factor_in : Data → Option Float
factor_in d = number_or float_one (get (codes "factor") d)

abbrev pub offset_in : Data → Option Float
offset_in d = number_or float_zero (get (codes "offset") d)

abbrev pub factor_of : Data → Float
factor_of d = unwrap_or (factor_in d) float_one

abbrev pub offset_of : Data → Float
offset_of d = unwrap_or (offset_in d) float_zero

-- a number in memory as a value in its unit
abbrev pub in_unit : Float → Float → Float → Float
in_unit factor offset x = add binary64 (mul binary64 x factor) offset

-- the least and the greatest value of a type in the unit: a factor below 0 turns them round
abbrev pub in_order : Float → Float → Float × Float
in_order a b = if le a b then (a, b) else (b, a)

abbrev pub bounds_in : ValueType → Float → Float → Float × Float
bounds_in t factor offset = in_order (in_unit factor offset t.least) (in_unit factor offset t.greatest)

abbrev pub bounds_of : Data → Float × Float
bounds_of d = bounds_in (type_of d) (factor_of d) (offset_of d)

-- the limits, those of the type where none are given
abbrev pub low_in : Float × Float → Data → Option Float
low_in bounds d = number_or bounds.0 (get (codes "low") d)

abbrev pub high_in : Float × Float → Data → Option Float
high_in bounds d = number_or bounds.1 (get (codes "high") d)

-- limits are values of the type, finite, and not the wrong way round
abbrev pub are_limits : Float × Float → Float → Float → Bool
are_limits bounds low high = le bounds.0 low && le low high && le high bounds.1 && float_is_finite low && float_is_finite high
