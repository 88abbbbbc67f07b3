use Rattle.std.proofs.Common.{◌≡◌, ◌+◌, ◌-◌, ◌^◌, ◌≤◌, min, sum_by, length}
use Rattle.xcp_server.specs.Report.{lost_by}
use Rattle.xcp_server.proofs.report.count_lost.Given as goal

-- what was counted, and what is among the receipts of the callers that are left
abbrev pub invariant-loop-caller : goal.invariant-loop-caller
invariant-loop-caller g l = (min (l.lost + sum_by lost_by l.left) (2 ^ 64 - 1) ≡ min (sum_by lost_by l.callers) (2 ^ 64 - 1)) × (l.lost ≤ 2 ^ 64 - 1)

abbrev pub decreases-loop-caller : goal.decreases-loop-caller
decreases-loop-caller g l = length l.left
