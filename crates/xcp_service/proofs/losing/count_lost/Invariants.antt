use Rattle.std.proofs.Common.{◌≡◌, ◌+◌, ◌-◌, ◌^◌, ◌≤◌, min, length}
use Rattle.xcp_service.specs.Losing.{lost_among}
use Rattle.xcp_service.proofs.losing.count_lost.Given as goal

-- what was counted, and what is among the entries that are left
abbrev pub invariant-loop-entry : goal.invariant-loop-entry
invariant-loop-entry g l = (min (l.lost + lost_among l.entries) (2 ^ 64 - 1) ≡ min (lost_among l.chapter.entries) (2 ^ 64 - 1)) × (l.lost ≤ 2 ^ 64 - 1)

abbrev pub decreases-loop-entry : goal.decreases-loop-entry
decreases-loop-entry g l = length l.entries
