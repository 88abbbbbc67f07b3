-- The keys that were found.
use Rattle.std.specs.Prelude.{List, map}
use Rattle.xcp_describe.specs.declared.place.Place.{Place}
use Rattle.xcp_describe.specs.declared.place.Place.TheVariants as place
use Rattle.xcp_describe.specs.declared.unread.Unread.{Unread}
use Rattle.xcp_describe.specs.Places as told

-- a place, without where its name lies in memory
abbrev pub bare_place : Place → told.Place
bare_place place.Top = told.no_table
bare_place (place.Table name) = told.table_named name.now
bare_place (place.Member name n) = told.member_of name.now n

-- a key with its place
abbrev pub placed : Unread → told.PlacedKey
placed u = record { place = bare_place u.place; key = u.key.now }

abbrev pub keys_of : List Unread → List told.PlacedKey
keys_of = map placed
