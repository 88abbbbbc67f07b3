use Rattle.std.proofs.Common.{◌≡◌, map, drop}
use Rattle.std.specs.List.{list_any}
use Rattle.toml.specs.View.{view}
use Rattle.xcp_describe.specs.NumberNames.{is_same_number}
use Rattle.xcp_describe.proofs.names.has_number_of.Given as goal

abbrev pub invariant-loop-other : goal.invariant-loop-other
invariant-loop-other l = list_any (is_same_number (view l.pair)) (map view l.others) ≡ list_any (is_same_number (view l.pair)) (map view (drop l.other-index l.others))
