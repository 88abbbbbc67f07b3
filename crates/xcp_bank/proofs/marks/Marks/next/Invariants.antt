use Rattle.std.proofs.Common.{◌≡◌, ℕ, ◌<◌, ◌≤◌, false}
use Rattle.xcp_bank.specs.private.BlockMarks.{mark_of}
use Rattle.xcp_bank.proofs.marks.Marks.next.Given as goal

-- No block before this one is marked.
abbrev pub invariant-loop-block : goal.invariant-loop-block
invariant-loop-block l = (block : ℕ) → l.from ≤ block → block < l.block → mark_of l.self block l.buffer ≡ false
