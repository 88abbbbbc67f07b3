-- The values that a TOML document has at its keys (TOML v1.1.0: keys, arrays and tables), read as a configuration reads them.
use Rattle.std.specs.Prelude.{ℕ, ℤ, pos, Bool, true, false, List, [], ◌∷◌, ◌==◌, ◌&&◌, ◌||◌, not, codes, Option, Some, None, Result, Ok, Err, is_some, unwrap_or, if◌then◌else◌}
use Rattle.std.specs.Option.{option_and_then}
use Rattle.std.specs.List.{list_all}
use Rattle.std.specs.Str.{bytes_eq}
use Rattle.hex.specs.Hex.{decode_of}
use Rattle.hex.specs.declared.FromHexError.{FromHexError}
use Rattle.toml.specs.Data.{Data, Items, no_items, item, as_integer, as_str, as_bool, as_array, as_table}
use Rattle.xcp_packet.specs.declared.Order.{Order}
use Rattle.xcp_packet.specs.declared.Order.TheVariants.{Intel, Motorola}
use Rattle.xcp_memory.specs.declared.Class.{Class}
use Rattle.xcp_memory.specs.declared.Class.TheVariants.{Papers, Large}
use Rattle.xcp_memory.specs.Limits.{is_text}
use Rattle.xcp_memory.specs.declared.ChecksumKind.{ChecksumKind}
use Rattle.xcp_memory.specs.declared.ChecksumKind.TheVariants.{Add11, Add12, Add14, Add22, Add24, Add44}

-- the value of an optional key: its own, or the default where the key isn't there
abbrev pub optional : Data → Option Data → Option Data
optional d None = Some d
optional d (Some v) = Some v

-- the text that a value is, and none where it is no text
abbrev pub value_text : Option Data → List ℕ
value_text v = unwrap_or (option_and_then as_str v) []

-- the integer that a value is, and 0 where it is none
abbrev pub integer_of : Option Data → ℤ
integer_of v = unwrap_or (option_and_then as_integer v) (pos 0)

-- the boolean that a value is, and false where it is none
abbrev pub boolean_of : Option Data → Bool
boolean_of v = unwrap_or (option_and_then as_bool v) false

-- the bytes that were decoded, and none where they couldn't be
abbrev pub decoded : Result (List ℕ) FromHexError → List ℕ
decoded (Ok bytes) = bytes
decoded (Err e) = []

-- the bytes that a text of hex digits of either case writes, and none where a digit is wrong or their number is odd
abbrev pub bytes_in_hex : Option Data → List ℕ
bytes_in_hex v = decoded (decode_of (value_text v))

-- The name of a file that lies beside a layout's file: 1 to 64 printable characters, no slash among them, and not a name of a folder.
abbrev pub has_no_slash : List ℕ → Bool
has_no_slash name = list_all (λ c. not (c == 47)) name

abbrev pub is_folder : List ℕ → Bool
is_folder name = bytes_eq name (codes ".") || bytes_eq name (codes "..")

abbrev pub is_file_name : List ℕ → Bool
is_file_name name = is_text 64 name && has_no_slash name && not (is_folder name)

-- the members of an array as a list
abbrev pub array_members : Items → List Data
array_members no_items = []
array_members (item d ds) = d ∷ array_members ds

-- the members of the array that a value is, and none where it is no array
abbrev pub members_of : Option Data → List Data
members_of v = array_members (unwrap_or (option_and_then as_array v) no_items)

abbrev pub is_table : Data → Bool
is_table d = is_some (as_table d)

-- an array of tables alone
abbrev pub is_array_of_tables : Option Data → Bool
is_array_of_tables v = is_some (option_and_then as_array v) && list_all is_table (members_of v)

-- what a text names in a list of names, if it is one of them
abbrev pub named : {A : Type 0} → List (List ℕ × A) → List ℕ → Option A
named [] text = None
named (x ∷ rest) text = if bytes_eq text x.0 then Some x.1 else named rest text

-- the byte orders: the lowest byte first, or the highest
-- (ASAM MCD-1 XCP, protocol layer, description of commands: CONNECT, BYTE_ORDER of COMM_MODE_BASIC.)
abbrev pub byte_orders : List (List ℕ × Order)
byte_orders = (codes "intel", Intel) ∷ (codes "motorola", Motorola) ∷ []

-- the types of checksums
-- (ASAM MCD-1 XCP, protocol layer, description of commands: BUILD_CHECKSUM, XCP_ADD_11 to XCP_ADD_44.)
abbrev pub checksums : List (List ℕ × ChecksumKind)
checksums =
    (codes "ADD_11", Add11)
    ∷ (codes "ADD_12", Add12)
    ∷ (codes "ADD_14", Add14)
    ∷ (codes "ADD_22", Add22)
    ∷ (codes "ADD_24", Add24)
    ∷ (codes "ADD_44", Add44)
    ∷ []

-- whether an event packet tells of lost samples: the one word that says so
-- (ASAM MCD-1 XCP, protocol layer, event packets: EV_DAQ_OVERLOAD.)
abbrev pub overloads : List (List ℕ × Bool)
overloads = (codes "event", true) ∷ []

-- the classes of layouts: which limits hold
abbrev pub classes : List (List ℕ × Class)
classes = (codes "papers", Papers) ∷ (codes "large", Large) ∷ []
