use Rattle.std.proofs.Common.{◌≡◌, drop}
use Rattle.std.specs.List.{flat_map, enumerate_from}
use Rattle.xcp_packet.specs.Rows.{first_holding}
use Rattle.xcp_describe.specs.EntryFaults.{axes_checks, axis_checks}
use Rattle.xcp_describe.specs.private.EntriesRead.{forms_of}
use Rattle.xcp_describe.proofs.tables.check_axes.Given as goal

abbrev pub invariant-loop-i : goal.invariant-loop-i
invariant-loop-i l =
    let ps = forms_of l.parameters in
    first_holding (axes_checks ps) ≡ first_holding (flat_map (axis_checks ps) (enumerate_from l.i (drop l.i ps)))
