use Rattle.xcp_laws.proofs.PlainRuns.{step-plain, run-plain, commands-unknown}
use Rattle.xcp_laws.proofs.plain.without_new_keys_there_is_nothing_new.Goals as goal

pub returns-clause-step : goal.returns-clause-step
returns-clause-step c = step-plain

pub returns-clause-run : goal.returns-clause-run
returns-clause-run c = run-plain

pub returns-clause-unknown : goal.returns-clause-unknown
returns-clause-unknown c = commands-unknown
