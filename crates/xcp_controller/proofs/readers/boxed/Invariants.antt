use Rattle.std.proofs.Common.{◌≡◌, ◌++◌, map}
use Rattle.xcp_controller.proofs.readers.boxed.Given as goal

-- the boxes have the readers so far, and the rest is to come
abbrev pub invariant-loop-reader : goal.invariant-loop-reader
invariant-loop-reader l = map (λ b. b.value) l.boxes.items ++ l.reader-iterator.rest.items ≡ l.fn.readers.items
