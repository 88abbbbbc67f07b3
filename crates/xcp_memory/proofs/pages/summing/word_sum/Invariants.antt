use Rattle.std.proofs.Common.{◌≡◌, ◌≤◌, ◌*◌, sum}
use Rattle.xcp_memory.specs.Checksum.{numbers}
use Rattle.xcp_memory.proofs.pages.summing.word_sum.Given as goal

abbrev pub invariant-loop-i : goal.invariant-loop-i
invariant-loop-i l = record {
  so_far : l.sum ≡ sum (numbers l.order 2 l.i l.bytes);
  most : l.sum ≤ 0xFFFF * l.i;
}
