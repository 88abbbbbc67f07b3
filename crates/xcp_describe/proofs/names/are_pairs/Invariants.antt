use Rattle.std.proofs.Common.{◌≡◌, map, drop}
use Rattle.toml.specs.View.{view}
use Rattle.xcp_describe.specs.NumberNames.{are_pairs}
use Rattle.xcp_describe.specs.private.EntriesRead.{type_named}
use Rattle.xcp_describe.proofs.names.are_pairs.Given as goal

abbrev pub invariant-loop-i : goal.invariant-loop-i
invariant-loop-i l = are_pairs (type_named l.kind) (map view l.pairs) ≡ are_pairs (type_named l.kind) (map view (drop l.i l.pairs))
