use Rattle.xcp_laws.proofs.TimelessRuns.{step-timed, run-timed, run-back}
use Rattle.xcp_laws.proofs.timeless.without_a_clock_time_is_nothing.Goals as goal

pub returns-clause-step : goal.returns-clause-step
returns-clause-step c = step-timed

pub returns-clause-run : goal.returns-clause-run
returns-clause-run c = run-timed

pub returns-clause-back : goal.returns-clause-back
returns-clause-back c = run-back
