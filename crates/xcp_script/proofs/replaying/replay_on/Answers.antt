use Rattle.xcp_script.proofs.LineReadingLaws.{of_lines}
use Rattle.xcp_script.proofs.replaying.replay_on.Goals as goal

pub returns-clause-replayed : goal.returns-clause-replayed
returns-clause-replayed g c = of_lines _ _ c.run_script-result.ensures.replayed

pub returns-clause-memory : goal.returns-clause-memory
returns-clause-memory g c = λ h. of_lines _ _ (c.run_script-result.ensures.memory h)
