use Rattle.std.proofs.Common.{◌≡◌, map, take, drop}
use Rattle.std.specs.List.{flat_map, enumerate_from}
use Rattle.toml.specs.View.{view}
use Rattle.xcp_packet.specs.Rows.{first_holding}
use Rattle.xcp_describe.specs.EntryFaults.{parameter_checks}
use Rattle.xcp_describe.specs.EntryValues.{name_of}
use Rattle.xcp_describe.specs.Axes.{form_of}
use Rattle.xcp_describe.specs.private.EntriesRead.{forms_of, names_of}
use Rattle.xcp_describe.proofs.tables.each_parameter.Given as goal

abbrev pub invariant-loop-i : goal.invariant-loop-i
invariant-loop-i l =
    let ds = map view l.members in
    let faults = parameter_checks l.layout ds in
    record {
      checked : first_holding (flat_map faults (enumerate_from 0 ds)) ≡ first_holding (flat_map faults (enumerate_from l.i (drop l.i ds)));
      names : names_of l.entries.items ≡ map name_of (take l.i ds);
      forms : forms_of l.entries.items ≡ map form_of (take l.i ds);
    }
