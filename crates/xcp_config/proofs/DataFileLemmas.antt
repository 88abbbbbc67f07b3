-- A segment whose table names a file, and one whose table writes its bytes.
use Rattle.std.proofs.Common.{◌≡◌, ◌++◌, ℕ, codes, Option, Some, None, ap, ◌∙◌}
use Rattle.toml.specs.Data.{Data, get}
use Rattle.xcp_memory.specs.declared.Key.TheVariants as key
use Rattle.xcp_memory.specs.Limits.{data_limit}
use Rattle.xcp_packet.specs.Rows.{first_holding}
use Rattle.xcp_config.specs.declared.config_error.ConfigError.{ConfigError}
use Rattle.xcp_config.specs.TableLayout.{Filed, file_key}
use Rattle.xcp_config.specs.TableChecks.{data_checks, name_of_file_checks, content_checks, checks_of_bytes, bytes_checks}

-- where no file is named the text decides
pub by_text : (i : ℕ) (d : Filed) (r : Option ConfigError) → file_key d.1 ≡ None → first_holding (data_checks (key.Data i) (data_limit i) (get (codes "data") d.1)) ≡ r → first_holding (bytes_checks i d) ≡ r
unfolding bytes_checks
by_text i d r e h = ap (λ (v : Option Data). first_holding (checks_of_bytes i v d)) e ∙ h

-- where one is, its name and its content do
pub by_file : (i : ℕ) (d : Filed) (name : Data) (r : Option ConfigError) → file_key d.1 ≡ Some name → first_holding (name_of_file_checks i name d.1 ++ content_checks i d.0) ≡ r → first_holding (bytes_checks i d) ≡ r
unfolding bytes_checks
by_file i d name r e h = ap (λ (v : Option Data). first_holding (checks_of_bytes i v d)) e ∙ h
