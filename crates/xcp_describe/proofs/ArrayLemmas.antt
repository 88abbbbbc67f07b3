-- The members of an array.
use Rattle.std.proofs.Common.{◌≡◌, List, [], ◌∷◌, Option, Some, refl, ap, true}
use Rattle.toml.specs.Data.{Data, as_array}
use Rattle.toml.specs.View.{items_of}
use Rattle.xcp_config.specs.TomlValues.{array_members, members_of}
use Rattle.xcp_describe.specs.EntryValues.{is_array_or_none}

-- a list, as items and back
list_of_items : (ds : List Data) → array_members (items_of ds) ≡ ds
list_of_items [] = refl
list_of_items (d ∷ ds) = ap (λ es. d ∷ es) (list_of_items ds)

-- a value that is an array of these items has them as its members
pub members_are : (v : Option Data) (d : Data) (ds : List Data) → v ≡ Some d → as_array d ≡ Some (items_of ds) → members_of v ≡ ds
members_are v d ds e f = rw (e, f) (list_of_items ds)

-- and is an array
pub array_there : (v : Option Data) (d : Data) (ds : List Data) → v ≡ Some d → as_array d ≡ Some (items_of ds) → is_array_or_none v ≡ true
array_there v d ds e f = rw (e, f) refl
