use Rattle.pin_core.proofs.OpeningLaws.{opening_lawful}
use Rattle.pin_core.proofs.StepLaws.{run_keeps, determined, enabled_steps, step_enabled}
use Rattle.pin_core.proofs.laws.runs_stay_lawful.Goals as goal

pub returns-clause-opens_lawful : goal.returns-clause-opens_lawful
returns-clause-opens_lawful c = opening_lawful

pub returns-clause-stays_lawful : goal.returns-clause-stays_lawful
returns-clause-stays_lawful c = run_keeps

pub returns-clause-determined : goal.returns-clause-determined
returns-clause-determined c = determined

pub returns-clause-enabled : goal.returns-clause-enabled
returns-clause-enabled c = λ W s e. (enabled_steps W s e, λ a t. step_enabled W s t e a)
