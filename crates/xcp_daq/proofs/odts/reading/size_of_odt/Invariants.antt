use Rattle.std.proofs.Common.{◌≡◌, ◌≤◌, ◌*◌, take}
use Rattle.xcp_daq.specs.DaqLists.{odt_size}
use Rattle.xcp_daq.proofs.odts.reading.size_of_odt.Given as goal

abbrev pub invariant-loop-entry : goal.invariant-loop-entry
invariant-loop-entry l = record {
  is : l.size ≡ odt_size (take l.entry-index l.entries);
  most : l.size ≤ 255 * l.entry-index;
}
