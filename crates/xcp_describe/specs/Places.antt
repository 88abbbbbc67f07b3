-- Where a key of a layout file stands, and how it stands in a line: as TOML writes it (TOML v1.1.0: keys, strings), with no control
-- character, so that a line feed in a key ends no line, and none reaches a terminal.
use Rattle.std.specs.Prelude.{ℕ, ◌/◌, ◌%◌, Bool, true, not, List, [], ◌∷◌, ◌++◌, length, codes, ◌==◌, ◌&&◌, ◌||◌, if◌then◌else◌}
use Rattle.std.specs.List.{list_all, flat_map}
use Rattle.std.specs.Str.{chars}
use Rattle.std.specs.Char.{encode_utf8, is_control, is_ascii_alphanumeric}
use Rattle.std.specs.Fmt.{decimal, digit_glyph}

-- in no table, in the table of this name, or in a table of the array of this name, by its number from 0
pub data Place : Type 0 where
  no_table : Place
  table_named : List ℕ → Place
  member_of : List ℕ → ℕ → Place

abbrev pub place_text : Place → List ℕ
place_text no_table = []
place_text (table_named name) = name ++ codes ": "
place_text (member_of name n) = name ++ codes " " ++ decimal n ++ codes ": "

-- a key with its place
pub record PlacedKey : Type 0 where
  pub place : Place
  pub key : List ℕ

-- a key that TOML writes without quotes: letters, digits, underscores and dashes, one at least
abbrev pub is_bare_character : ℕ → Bool
is_bare_character c = is_ascii_alphanumeric c || c == 95 || c == 45

abbrev pub is_bare : List ℕ → Bool
is_bare key = not (length key == 0) && list_all is_bare_character key

-- a code below 256, in two hex digits
abbrev pub code_escape : ℕ → List ℕ
code_escape c = codes "\\u00" ++ (digit_glyph true (c / 16) ∷ digit_glyph true (c % 16) ∷ [])

-- a control character, in its short form or by its code, which is below 256
abbrev pub escape : ℕ → List ℕ
escape c =
    if c == 8 then codes "\\b"
    else (if c == 9 then codes "\\t"
    else (if c == 10 then codes "\\n"
    else (if c == 12 then codes "\\f"
    else (if c == 13 then codes "\\r" else code_escape c))))

-- a character between quotes
abbrev pub quoted : ℕ → List ℕ
quoted c =
    if c == 34 then codes "\\\""
    else (if c == 92 then codes "\\\\"
    else (if is_control c then escape c else encode_utf8 c))

-- a key as TOML writes it
abbrev pub key_text : List ℕ → List ℕ
key_text key = if is_bare key then key else codes "\"" ++ flat_map quoted (chars key) ++ codes "\""
