use Rattle.std.proofs.Common.{◌≡◌, drop}
use Rattle.xcp_server.specs.Report.{fault_of_outcomes}
use Rattle.xcp_server.proofs.report.told_fault.Given as goal

-- no connection up to here was faulty
abbrev pub invariant-loop-outcome : goal.invariant-loop-outcome
invariant-loop-outcome l = fault_of_outcomes (drop l.outcome-index l.outcomes) ≡ fault_of_outcomes l.outcomes
