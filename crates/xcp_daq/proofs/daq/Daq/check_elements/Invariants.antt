use Rattle.std.proofs.Common.{◌≡◌, ◌-◌, ◌*◌, drop}
use Rattle.std.specs.Result.{result_err}
use Rattle.xcp_daq.specs.DaqInvariant.{IsPointerOf}
use Rattle.xcp_daq.specs.Configuring.{elements_in, write_daqs}
use Rattle.xcp_daq.proofs.daq.Daq.check_elements.Given as goal

abbrev pub invariant-loop-k : goal.invariant-loop-k
invariant-loop-k l = record {
  inside : IsPointerOf l.self l.pointer;
  rest : result_err (write_daqs l.layout (elements_in l.layout.order (l.n - l.k) (drop (8 * l.k) l.elements)) (record l.self { pointer = l.pointer })) ≡ result_err (write_daqs l.layout (elements_in l.layout.order l.n l.elements) l.self);
}
