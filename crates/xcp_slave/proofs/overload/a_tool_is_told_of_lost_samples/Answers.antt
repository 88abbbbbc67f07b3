use Rattle.xcp_slave.proofs.OverloadLaws.{overrun-flag, first-told, full-untold, next-told, run-once, data-apart, nothing-told, none-overruns, flag-kept}
use Rattle.xcp_slave.proofs.overload.a_tool_is_told_of_lost_samples.Goals as goal

pub returns-clause-lost : goal.returns-clause-lost
returns-clause-lost c = overrun-flag

pub returns-clause-first : goal.returns-clause-first
returns-clause-first c = first-told

pub returns-clause-next : goal.returns-clause-next
returns-clause-next c = next-told

pub returns-clause-once : goal.returns-clause-once
returns-clause-once c = run-once

pub returns-clause-apart : goal.returns-clause-apart
returns-clause-apart c = data-apart

pub returns-clause-nothing : goal.returns-clause-nothing
returns-clause-nothing c = nothing-told

pub returns-clause-none_due : goal.returns-clause-none_due
returns-clause-none_due c = none-overruns

pub returns-clause-others : goal.returns-clause-others
returns-clause-others c = flag-kept

pub returns-clause-full : goal.returns-clause-full
returns-clause-full c = full-untold
