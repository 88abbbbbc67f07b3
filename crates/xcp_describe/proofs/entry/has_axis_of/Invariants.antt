use Rattle.std.proofs.Common.{◌≡◌, drop}
use Rattle.std.specs.List.{list_any}
use Rattle.xcp_describe.specs.Axes.{is_axis}
use Rattle.xcp_describe.specs.private.EntriesRead.{forms_of}
use Rattle.xcp_describe.proofs.entry.has_axis_of.Given as goal

abbrev pub invariant-loop-parameter : goal.invariant-loop-parameter
invariant-loop-parameter l = list_any (is_axis l.count l.name) (forms_of l.parameters) ≡ list_any (is_axis l.count l.name) (forms_of (drop l.parameter-index l.parameters))
