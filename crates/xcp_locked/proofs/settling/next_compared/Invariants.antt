use Rattle.std.proofs.Common.{◌≡◌, ◌+◌, length}
use Rattle.xcp_locked.specs.SettledReceipts.{receipts_for}
use Rattle.xcp_locked.proofs.settling.next_compared.Given as goal

abbrev pub invariant-loop-passed : goal.invariant-loop-passed
invariant-loop-passed l =
    (receipts_for l.later l.chapter l.fn.left ≡ receipts_for l.later l.chapter l.left)
    × (l._passed + length l.left ≡ length l.fn.left)
