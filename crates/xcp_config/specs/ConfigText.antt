-- What the text of a configuration describes.
use Rattle.std.specs.Prelude.{◌≡◌, ◌⊎◌, List, [], ℕ, Option, Some, None, map, take, if◌then◌else◌}
use Rattle.toml.specs.Data.{Data, Members, table}
use Rattle.toml.specs.Parse.{parse_document}
use Rattle.xcp_memory.specs.Layout.{LayoutValue}
use Rattle.xcp_config.specs.declared.config_error.ConfigError.{ConfigError}
use Rattle.xcp_config.specs.TomlValues.{is_file_name, value_text}
use Rattle.xcp_config.specs.TableLayout.{File, file_key, layout_in, segment_tables}
use Rattle.xcp_config.specs.TableChecks.{first_table_fault}

-- the text is a TOML document, no check of its table fails, with these files, and this is the table's layout
pub record HasLayoutWith (files : List File) (text : List ℕ) (l : LayoutValue) : Type 0 where
  pub members : Members
  pub document : parse_document text ≡ Some members
  pub passes : first_table_fault files (table members) ≡ None
  pub is : l ≡ layout_in files (table members)

-- the text is a TOML document, and the first check of its table that fails, with these files, has this fault
pub record HasFaultWith (files : List File) (text : List ℕ) (e : ConfigError) : Type 0 where
  pub members : Members
  pub document : parse_document text ≡ Some members
  pub fails : first_table_fault files (table members) ≡ Some e

-- the same of a text alone, with no files
abbrev pub HasLayout : List ℕ → LayoutValue → Type 0
HasLayout text l = HasLayoutWith [] text l

abbrev pub HasFault : List ℕ → ConfigError → Type 0
HasFault text e = HasFaultWith [] text e

-- the text is no TOML document
abbrev pub IsNoDocument : List ℕ → Type 0
IsNoDocument text = parse_document text ≡ None

-- the file that a segment's table names, if it names one
abbrev pub name_by : Option Data → Option (List ℕ)
name_by None = None
name_by (Some name) = if is_file_name (value_text (Some name)) then Some (value_text (Some name)) else None

-- the files that the first 16 segments of a table name, by their numbers
abbrev pub names_in : Data → List (Option (List ℕ))
names_in t = map (λ s. name_by (file_key s)) (take 16 (segment_tables t))

-- the files that a text names: none where it is no TOML document
abbrev pub NamesFiles : List ℕ → List (Option (List ℕ)) → Type 0
NamesFiles text names =
    (IsNoDocument text × (names ≡ []))
    ⊎ ((members : Members) × (parse_document text ≡ Some members) × (names ≡ names_in (table members)))
