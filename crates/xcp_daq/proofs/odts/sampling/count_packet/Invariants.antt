use Rattle.std.proofs.Common.{◌≡◌, length, take}
use Rattle.xcp_daq.specs.Sample.{odt_bytes}
use Rattle.xcp_daq.proofs.odts.sampling.count_packet.Given as goal

abbrev pub invariant-loop-entry : goal.invariant-loop-entry
invariant-loop-entry l = length (odt_bytes l.pages (take l.entry-index l.entries)) ≡ 0
