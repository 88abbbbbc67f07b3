-- A table with a table `clock`, and one without.
use Rattle.std.proofs.Common.{◌≡◌, ◌++◌, Option, Some, None, refl, sym, ap, ◌∙◌}
use Rattle.std.specs.Prelude.{is_some, true, false}
use Rattle.std.specs.Option.{option_map}
use Rattle.toml.specs.Data.{Data}
use Rattle.xcp_memory.specs.declared.Key.TheVariants as key
use Rattle.xcp_packet.specs.Rows.{first_holding}
use Rattle.xcp_config.specs.declared.config_error.ConfigError.{ConfigError}
use Rattle.xcp_config.specs.TomlValues.{optional}
use Rattle.xcp_config.specs.TableLayout.{clock_key}
use Rattle.xcp_config.specs.TableChecks.{table_checks, clock_key_checks, checks_of_clock, clock_checks}
use Rattle.xcp_packet.proofs.RowTestLemmas.{holding_left, none_left}

-- whether a value was found
pub missing : {A : Type 0} (f : A → Data) (o : Option A) (v : Option Data) → option_map f o ≡ v → is_some o ≡ false → v ≡ None
missing f None v h e = sym h
missing f (Some x) v h e = cc

-- where something was read of an optional value, the value is there
pub present : {A : Type 0} (f : A → Data) (o : Option A) (v : Option Data) → option_map f o ≡ v → is_some o ≡ true → (d : Data) × (v ≡ Some d)
present f None v h e = cc
present f (Some x) v h e = (f x, sym h)

-- where an optional key is there, its value is its own
pub given : (default : Data) (v : Option Data) (d : Data) → v ≡ Some d → optional default v ≡ v
given default None d h = cc
given default (Some x) d h = refl

-- without the table no check fails
pub no_clock_passes : (t : Data) → clock_key t ≡ None → first_holding (clock_checks t) ≡ None
unfolding clock_checks
no_clock_passes t e = ap (λ (v : Option Data). first_holding (checks_of_clock v)) e

-- with one these are the checks
are_checks : (t d : Data) → clock_key t ≡ Some d → first_holding (clock_checks t) ≡ first_holding (table_checks key.Clock (Some d) ++ clock_key_checks d)
unfolding clock_checks
are_checks t d e = ap (λ (v : Option Data). first_holding (checks_of_clock v)) e

-- where the table `clock` fails a check as a table, this is the first fault
pub no_table : (t d : Data) (e : ConfigError) → clock_key t ≡ Some d → first_holding (table_checks key.Clock (clock_key t)) ≡ Some e → first_holding (clock_checks t) ≡ Some e
no_table t d e is h = are_checks t d is ∙ holding_left (table_checks key.Clock (Some d)) (clock_key_checks d) e (ap (λ (v : Option Data). first_holding (table_checks key.Clock v)) (sym is) ∙ h)

-- where it fails none as a table, its first fault is that of its keys, if there is one
pub by_keys : (t d : Data) (r : Option ConfigError) → clock_key t ≡ Some d → first_holding (table_checks key.Clock (clock_key t)) ≡ None → first_holding (clock_key_checks d) ≡ r → first_holding (clock_checks t) ≡ r
by_keys t d r is h keys = are_checks t d is ∙ (none_left (table_checks key.Clock (Some d)) (clock_key_checks d) (ap (λ (v : Option Data). first_holding (table_checks key.Clock v)) (sym is) ∙ h) ∙ keys)
