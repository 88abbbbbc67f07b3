use Rattle.std.specs.Prelude.{◌≡◌, ◌+◌, ◌*◌, ◌++◌, length, vec_len, vec_capacity}
use Rattle.xcp_trace.proofs.tape.put.Given as goal

abbrev pub invariant-loop-eight : goal.invariant-loop-eight
invariant-loop-eight l = record {
  items : l.bytes.items ++ l.left ≡ l.fn.bytes.items ++ l.more;
  len : vec_len l.bytes + length l.left ≡ vec_len l.fn.bytes + length l.more;
  capacity : vec_capacity l.bytes ≡ vec_capacity l.fn.bytes;
  left : length l.left + 8 * l._eight ≡ length l.more;
}
