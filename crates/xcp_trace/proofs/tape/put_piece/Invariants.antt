use Rattle.std.specs.Prelude.{◌≡◌, ◌+◌, ◌++◌, take, vec_len, vec_capacity}
use Rattle.xcp_trace.proofs.tape.put_piece.Given as goal

abbrev pub invariant-loop-i : goal.invariant-loop-i
invariant-loop-i g l = record {
  items : l.bytes.items ≡ l.fn.bytes.items ++ take l.i l.piece;
  len : vec_len l.bytes ≡ vec_len l.fn.bytes + l.i;
  capacity : vec_capacity l.bytes ≡ vec_capacity l.fn.bytes;
}
