-- Arrays of tables.
use Rattle.std.proofs.Common.{◌≡◌, ℕ, ◌+◌, ◌<◌, drop, get_or, true, List, [], ◌∷◌, ◌&&◌, length, map, min, take, Option, Some, refl, sym, ◌∙◌, ap, nat_le, is_some}
use Rattle.std.proofs.lemmas.List.{take-map, take_min}
use Rattle.std.specs.Option.{option_and_then}
use Rattle.std.specs.List.{list_all}
use Rattle.toml.specs.Data.{Data, as_array}
use Rattle.toml.specs.View.{items_of, view}
use Rattle.toml.specs.declared.value.Value.{Value}
use Rattle.xcp_memory.specs.declared.Key.{Key}
use Rattle.xcp_config.specs.declared.config_error.ConfigError.TheVariants.{Kind, Range, TooMany}
use Rattle.xcp_packet.specs.Rows.{first_holding, must}
use Rattle.xcp_config.specs.TomlValues.{array_members, members_of, is_table}
use Rattle.xcp_memory.specs.Limits.{count_limits}
use Rattle.xcp_config.specs.TableChecks.{array_checks}
use Rattle.xcp_config.proofs.CheckLemmas.{drop_here}

-- a list, as items and back
pub list_of_items : (ds : List Data) → array_members (items_of ds) ≡ ds
list_of_items [] = refl
list_of_items (d ∷ ds) = ap (λ es. d ∷ es) (list_of_items ds)

-- whether values are all tables, from one of them on
pub tables_here : (xs : List Value) (i : ℕ) (x : Value) → i < length xs → x ≡ get_or xs i x → list_all is_table (map view (drop i xs)) ≡ (is_table (view x) && list_all is_table (map view (drop (i + 1) xs)))
tables_here xs i x h e = ap (λ ys. list_all is_table (map view ys)) (drop_here xs i x h e)

-- a value is an array with these members
pub record HasMembers (v : Option Data) (ds : List Data) : Type 0 where
  pub there : is_some v ≡ true
  pub array : is_some (option_and_then as_array v) ≡ true
  pub members : members_of v ≡ ds

-- a value that is an array of these items has them as its members
pub has_members : (v : Option Data) (d : Data) (ds : List Data) → v ≡ Some d → as_array d ≡ Some (items_of ds) → HasMembers v ds
has_members v d ds e f = rw e (record { there = refl; array = rw f refl; members = rw f (list_of_items ds) })

-- the checks of an array with these members
pub counted : (k : Key) (most : ℕ) (v : Option Data) (ds : List Data) → HasMembers v ds → first_holding (array_checks k (count_limits most k) v) ≡ first_holding (must (list_all is_table ds) (Kind k) ∷ must (nat_le 1 (length ds)) (Range k) ∷ must (nat_le (length ds) most) (TooMany k) ∷ [])
unfolding array_checks
counted k most v ds h = rw (h.there, h.array, h.members) refl

-- the first 16 values, as data
pub first_few : (xs : List Value) (n : ℕ) → n ≡ min 16 (length xs) → map view (take n xs) ≡ take 16 (map view xs)
first_few xs n h = ap (λ k. map view (take k xs)) h ∙ ap (map view) (take_min 16 xs) ∙ sym (take-map view 16 xs)
