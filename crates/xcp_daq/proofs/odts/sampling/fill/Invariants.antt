use Rattle.std.proofs.Common.{◌≡◌, ◌∷◌, ◌++◌, take}
use Rattle.xcp_daq.specs.Sample.{odt_bytes}
use Rattle.xcp_daq.proofs.odts.sampling.fill.Given as goal

abbrev pub invariant-loop-entry : goal.invariant-loop-entry
invariant-loop-entry l = l.packet.items ≡ l.pid ∷ (l.stamp ++ odt_bytes l.pages (take l.entry-index l.entries))
