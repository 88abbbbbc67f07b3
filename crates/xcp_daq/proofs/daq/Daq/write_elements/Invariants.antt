use Rattle.std.proofs.Common.{◌≡◌, ◌-◌, ◌*◌, drop}
use Rattle.xcp_daq.specs.Configuring.{elements_in, write_daqs}
use Rattle.xcp_daq.proofs.daq.Daq.write_elements.Given as goal

abbrev pub invariant-loop-k : goal.invariant-loop-k
invariant-loop-k l = write_daqs l.layout (elements_in l.layout.order (l.n - l.k) (drop (8 * l.k) l.elements)) l.self ≡ write_daqs l.layout (elements_in l.layout.order l.n l.elements) l.fn.self
