-- Names for the numbers of an entry, which tools show in their place: pairs, each an array of a number and its name.
-- (ASAM MCD-2 MC, ASAP2 1.6: COMPU_METHOD of type TAB_VERB, COMPU_VTAB.)
use Rattle.std.specs.Prelude.{ℕ, ℤ, Bool, true, not, ◌&&◌, ◌||◌, ◌==◌, List, [], ◌∷◌, length, codes, Option, is_some, option_and_then, nat_le}
use Rattle.std.specs.List.{list_any}
use Rattle.std.specs.Ordering.{int_eq}
use Rattle.std.specs.Float.{binary64}
use lib.Ieee.{le, of_int}
use Rattle.toml.specs.Data.{Data, as_integer, as_str, at, get}
use Rattle.xcp_memory.specs.Limits.{is_text}
use Rattle.xcp_config.specs.TomlValues.{members_of}
use Rattle.xcp_describe.specs.EntryValues.{ValueType, is_array_or_none, is_of_32_bits, some_and}

-- a number that a type of integers has
abbrev pub is_number_of : ValueType → ℤ → Bool
is_number_of t z = nat_le 1 t.mask && is_of_32_bits z && le t.least (of_int binary64 z) && le (of_int binary64 z) t.greatest

-- the number of a pair, and its name
abbrev pub number_of_pair : Data → Option ℤ
number_of_pair d = option_and_then as_integer (at 0 d)

abbrev pub name_of_pair : Data → Option (List ℕ)
name_of_pair d = option_and_then as_str (at 1 d)

-- a pair: a number of the type, a name of 1 to 100 printable characters, and nothing more
abbrev pub is_pair : ValueType → Data → Bool
is_pair t d = some_and (is_number_of t) (number_of_pair d) && some_and (is_text 100) (name_of_pair d) && not (is_some (at 2 d))

-- two pairs of one number
abbrev pub is_same_number : Data → Data → Bool
is_same_number d e = some_and (λ a. some_and (int_eq a) (number_of_pair e)) (number_of_pair d)

-- pairs of a type, no two of one number
abbrev pub are_pairs : ValueType → List Data → Bool
are_pairs t [] = true
are_pairs t (d ∷ ds) = is_pair t d && not (list_any (is_same_number d) ds) && are_pairs t ds

-- those of an entry
abbrev pub pairs_in : Data → List Data
pairs_in d = members_of (get (codes "values") d)

-- at most 256 of them; and where there is one, neither a factor nor an offset, which a name has no use for
abbrev pub are_names : ValueType → Data → Bool
are_names t d =
    is_array_or_none (get (codes "values") d)
    && nat_le (length (pairs_in d)) 256
    && are_pairs t (pairs_in d)
    && (length (pairs_in d) == 0 || not (is_some (get (codes "factor") d)) && not (is_some (get (codes "offset") d)))
