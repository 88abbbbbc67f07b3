-- The texts of a parameter or a measurement, its unit and what it is about, and how they stand in an A2L file.
-- (ASAM MCD-2 MC, ASAP2 1.6: string.)
use Rattle.std.specs.Prelude.{ℕ, Bool, not, ◌&&◌, ◌==◌, List, ◌++◌, length, codes, if◌then◌else◌, nat_le}
use Rattle.std.specs.List.{flat_map, list_all}
use Rattle.std.specs.Char.{encode_utf8, is_control}
use Rattle.std.specs.Str.{chars}

-- neither a control character (U+0000 to U+001F and U+007F to U+009F) nor what parts lines (U+2028) or paragraphs (U+2029)
abbrev pub is_text_character : ℕ → Bool
is_text_character c = not (is_control c) && not (c == 0x2028) && not (c == 0x2029)

-- at most 128 such characters: the characters count, and not their bytes
abbrev pub is_text_of_entry : List ℕ → Bool
is_text_of_entry s = list_all is_text_character (chars s) && nat_le (length (chars s)) 128

-- a character between quotes: a quote and a backslash have a backslash before them
abbrev pub quoted_character : ℕ → List ℕ
quoted_character c =
    if c == 34 then codes "\\\""
    else (if c == 92 then codes "\\\\" else encode_utf8 c)

-- a text between quotes
abbrev pub quoted_text : List ℕ → List ℕ
quoted_text s = codes "\"" ++ flat_map quoted_character (chars s) ++ codes "\""
