use Rattle.std.proofs.Common.{◌≡◌, map, option_map, string_bytes, take}
use Rattle.toml.specs.View.{view}
use Rattle.xcp_config.specs.TableLayout.{file_key}
use Rattle.xcp_config.specs.ConfigText.{name_by}
use Rattle.xcp_config.proofs.data_names.each_name.Given as goal

-- the names so far
abbrev pub invariant-loop-table : goal.invariant-loop-table
invariant-loop-table l = map (option_map string_bytes) l.names.items ≡ map (λ s. name_by (file_key s)) (take l.table-index (map view l.tables))
