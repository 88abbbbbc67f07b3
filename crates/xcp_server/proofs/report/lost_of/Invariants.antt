use Rattle.std.proofs.Common.{◌≡◌, ◌+◌, ◌-◌, ◌^◌, ◌≤◌, min, length}
use Rattle.xcp_server.specs.Report.{lost_receipts}
use Rattle.xcp_server.proofs.report.lost_of.Given as goal

-- what was counted, and what is among the receipts that are left
abbrev pub invariant-loop-receipt : goal.invariant-loop-receipt
invariant-loop-receipt l = (min (l.lost + lost_receipts l.left) (2 ^ 64 - 1) ≡ min (lost_receipts l.receipts.list) (2 ^ 64 - 1)) × (l.lost ≤ 2 ^ 64 - 1)

abbrev pub decreases-loop-receipt : goal.decreases-loop-receipt
decreases-loop-receipt l = length l.left
