use Rattle.std.proofs.Common.{◌≡◌, map, drop}
use Rattle.std.specs.List.{list_all}
use Rattle.toml.specs.View.{view}
use Rattle.xcp_config.specs.TomlValues.{is_table}
use Rattle.xcp_config.proofs.values.all_tables.Given as goal

abbrev pub invariant-loop-member : goal.invariant-loop-member
invariant-loop-member l = list_all is_table (map view l.members) ≡ list_all is_table (map view (drop l.member-index l.members))
