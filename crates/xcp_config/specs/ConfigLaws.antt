-- A law of configurations. It is the contract of a public function of src/law.rt.
use Rattle.std.specs.Prelude.{◌≡◌, List, [], None, All}
use Rattle.toml.specs.Data.{Data}
use Rattle.xcp_config.specs.TableLayout.{File, file_key, layout_in, segment_tables}
use Rattle.xcp_config.specs.TableChecks.{first_table_fault}

-- where no segment names a file, files decide nothing: neither the first fault nor the layout
abbrev pub FilesAreOfThoseThatNameThem : Type 0
FilesAreOfThoseThatNameThem =
    (files : List File) (t : Data) → All (λ s. file_key s ≡ None) (segment_tables t)
    → (first_table_fault files t ≡ first_table_fault [] t) × (layout_in files t ≡ layout_in [] t)
